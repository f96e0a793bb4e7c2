-- The tree of the text of a table's program.
use Rattle.std.proofs.Common.{◌≡◌, ◌≤◌, ◌<◌, ◌+◌, ◌*◌, ℕ, List, [], ◌∷◌, length, length-append, ap, sym, ◌∙◌, subst, arith}
use Rattle.std.specs.Prelude.{flat_map}
use Rattle.syntax_tree.specs.declared.place.Place.{Place}
use Rattle.syntax_tree.specs.Placed.{Prog}
use Rattle.syntax_tree.specs.Bare.{bare}
use Rattle.syntax.specs.Words.{Tok, toks_of, words_of}
use Rattle.syntax.specs.Grammar.{IsProg}
use Rattle.syntax_reading.specs.TreeWords.{prog_words}
use Rattle.syntax_printer.specs.Canonical.{program_lines}
use Rattle.syntax_printer.proofs.Lexed.{HasWords}
use Rattle.syntax_printer.proofs.Spelled.{AreSpelled, flat, lines_lexed}
use Rattle.syntax_printer.proofs.Lines.{program-says}
use Rattle.syntax_printer.proofs.MovedProgs.{prog-moves}
use Rattle.syntax_printer.proofs.ReadBackLemmas.{no_words}
use Rattle.front_end.specs.Source.{IsTreeOf}
use Rattle.front_end.specs.ProgramLaws.{HasOneTree}
use Rattle.table_format.specs.declared.table.TaskLine.{TaskLine}
use Rattle.table_format.specs.declared.table.TaskTable.{TaskTable}
use Rattle.table_format.specs.Rules.{IsBegun}
use Rattle.table_format.specs.Program.{made_tail, program_with, program_of, table_text}
use Rattle.table_law.specs.Tree.{TableTree}
use Rattle.table_law.proofs.Fits.{TableFits, table_fits}
use Rattle.table_law.proofs.Few.{sum_of, few_entries}
use Rattle.table_law.proofs.Tails.{has_tail}
use Rattle.table_law.proofs.Made.{made_spelled, made_short}
use Rattle.table_law.proofs.Weights.{weight, text_length}
use Rattle.table_law.proofs.TextLines.{have_words}
use Rattle.table_law.proofs.Spelled as spelled
use Rattle.table_law.proofs.Spelled.{MadeSpelled}
use Rattle.table_law.proofs.Short as short
use Rattle.table_law.proofs.Short.{MadeShort}
use Rattle.table_law.proofs.Grown.{toks, words-toks, of_program}
use Rattle.table_law.proofs.Bare.{is_bare}

made_right : (t : TaskTable) → IsBegun t → MadeSpelled (made_tail t)
made_right t is = let has = has_tail t is in subst MadeSpelled (sym has.is) (made_spelled has.number has.few)

made_few : (t : TaskTable) → IsBegun t → MadeShort (made_tail t)
made_few t is = let has = has_tail t is in subst MadeShort (sym has.is) (made_short has.number has.few)

length-stays : (ps : List TaskLine) → length (flat_map (λ p. p.stays) ps) ≡ sum_of (λ p. length p.stays) ps
length-stays [] = omega arith
length-stays (p ∷ ps) = omega (arith, length-stays ps, length-append p.stays (flat_map (λ q. q.stays) ps))

pub short_text : (t : TaskTable) → IsBegun t → length (table_text t) < 210000
unfolding table_text program_of
short_text t is =
    let tail = made_tail t in
    let fits = table_fits t is in
    let g = program_with tail t in
    let says = ap weight (program-says g) in
    let exact = text_length (program_lines g) (have_words tail t fits) in
    let most = short.of_program tail (made_few t is) t fits in
    omega (arith, says, exact, most, few_entries t, length-stays t.tasks, is.small.tasks, is.small.monitors, is.small.stays)

table_words : (t : TaskTable) → IsBegun t → HasWords (table_text t) (prog_words (program_of t))
unfolding table_text program_of
table_words t is =
    let g = program_with (made_tail t) t in
    let says : flat (program_lines g) ≡ prog_words g = program-says g in
    let are = subst AreSpelled (sym says) (spelled.of_program (made_tail t) (made_right t is) t (table_fits t is)) in
    subst (λ ws. HasWords (table_text t) ws) says (lines_lexed (program_lines g) are (omega (arith, short_text t is)))

pub table_tree : (t : TaskTable) → IsBegun t → TableTree t
unfolding program_of
table_tree t is =
    let g = program_of t in
    let it = table_words t is in
    let os : List (Tok Place) = toks_of (table_text t) it.toks in
    let same : words_of os ≡ words_of (toks (prog_words g)) = it.listed ∙ sym (words-toks (prog_words g)) in
    let moved = (prog-moves g).move (toks (prog_words g)) [] (of_program (made_tail t) t (table_fits t is)) os same in
    record {
      tree = moved.y;
      grown = record { toks = it.toks; listed = it.are; grown = subst (λ vs. IsProg moved.y os vs) (no_words moved.vs moved.words) moved.takes };
      same = moved.like ∙ is_bare (made_tail t) t (table_fits t is);
    }

pub only_tree : HasOneTree → (t : TaskTable) → IsBegun t → (g : Prog Place) → IsTreeOf (table_text t) g → bare g ≡ program_of t
only_tree one t is g grown =
    let it = table_tree t is in
    ap bare (one (table_text t) g it.tree grown it.grown) ∙ it.same
