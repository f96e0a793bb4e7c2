-- The tree of the text.
use Rattle.std.proofs.Common.{◌≡◌, ◌≤◌, ℕ, List, [], ap, sym, ◌∙◌, subst}
use Rattle.syntax_tree.specs.declared.place.Place.{Place}
use Rattle.syntax_tree.specs.Placed.{Prog}
use Rattle.syntax_tree.specs.Bare.{bare}
use Rattle.syntax.specs.Words.{Tok, toks_of, words_of}
use Rattle.syntax.specs.Grammar.{IsProg}
use Rattle.syntax_reading.specs.TreeWords.{prog_words}
use Rattle.syntax_printer.specs.Canonical.{program_lines}
use Rattle.syntax_printer.proofs.Lexed.{HasWords}
use Rattle.syntax_printer.proofs.Spelled.{AreSpelled, flat, lines_lexed}
use Rattle.syntax_printer.proofs.Lines.{program-says}
use Rattle.syntax_printer.proofs.MovedProgs.{prog-moves}
use Rattle.front_end.specs.Source.{IsTreeOf}
use Rattle.front_end.specs.ProgramLaws.{HasOneTree}
use Rattle.load.specs.Program.{load_program, program_text}
use Rattle.load_text_law.specs.Tree.{LoadTree}
use Rattle.load_text_law.proofs.Spelled as spelled
use Rattle.load_text_law.proofs.Grown.{toks, words-toks, of_program, bare-load}
use Rattle.load_text_law.proofs.Short.{short_text}
use Rattle.syntax_printer.proofs.ReadBackLemmas.{no_words}

load_words : (key count : ℕ) → count ≤ 64 → HasWords (program_text key count) (prog_words (load_program key count))
unfolding program_text
load_words key count few =
    let g = load_program key count in
    let says : flat (program_lines g) ≡ prog_words g = program-says g in
    let are = subst AreSpelled (sym says) (spelled.of_program key count few) in
    subst (λ ws. HasWords (program_text key count) ws) says (lines_lexed (program_lines g) are (short_text key count few))

pub load_tree : (key count : ℕ) → count ≤ 64 → LoadTree key count
load_tree key count few =
    let g = load_program key count in
    let it = load_words key count few in
    let os : List (Tok Place) = toks_of (program_text key count) it.toks in
    let same : words_of os ≡ words_of (toks (prog_words g)) = it.listed ∙ sym (words-toks (prog_words g)) in
    let moved = (prog-moves g).move (toks (prog_words g)) [] (of_program key count) os same in
    record {
      tree = moved.y;
      grown = record { toks = it.toks; listed = it.are; grown = subst (λ vs. IsProg moved.y os vs) (no_words moved.vs moved.words) moved.takes };
      same = moved.like ∙ bare-load key count;
    }

pub only_tree : HasOneTree → (key count : ℕ) → count ≤ 64 → (g : Prog Place) → IsTreeOf (program_text key count) g → bare g ≡ load_program key count
only_tree one key count few g is =
    let it = load_tree key count few in
    ap bare (one (program_text key count) g it.tree is it.grown) ∙ it.same
