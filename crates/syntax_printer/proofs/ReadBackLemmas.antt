-- What is read of a canonical text.
use Rattle.std.proofs.Common.{◌≡◌, List, [], ◌∷◌, sym, ap, ◌∙◌, subst}
use Rattle.syntax_tree.specs.declared.place.Place.{Place}
use Rattle.syntax_tree.specs.Placed.{Prog}
use Rattle.syntax_tree.specs.Bare.{bare}
use Rattle.syntax.specs.declared.token.Token.{Token}
use Rattle.syntax.specs.Tokens.{tokens}
use Rattle.syntax.proofs.LawLemmas.{one_list}
use Rattle.syntax.specs.Words.{Tok, toks_of, words_of}
use Rattle.syntax.specs.Grammar.{IsProg}
use Rattle.syntax_reading.specs.TreeWords.{prog_words}
use Rattle.syntax_reading.proofs.TreeWords.{prog-words}
use Rattle.syntax_printer.specs.Canonical.{canonical, program_lines}
use Rattle.syntax_printer.specs.ReadBack.{IsPrinted, HasTree}
use Rattle.syntax_printer.proofs.Lexed.{HasWords}
use Rattle.syntax_printer.proofs.Spelled as spelled
use Rattle.syntax_printer.proofs.Spelled.{flat, tokens_spelled, lines_lexed}
use Rattle.syntax_printer.proofs.Lines.{program-says}
use Rattle.syntax_printer.proofs.MovedProgs.{prog-moves}

-- the canonical text has the words of the tree
pub canonical_words : (g : Prog Place) → IsPrinted g → HasWords (canonical (bare g)) (prog_words (bare g))
canonical_words g is =
    let of_tree : words_of (toks_of is.text is.toks) ≡ prog_words (bare g) = prog-words g (toks_of is.text is.toks) is.reads in
    let of_lines : flat (program_lines (bare g)) ≡ prog_words (bare g) = program-says (bare g) in
    let are = subst spelled.AreSpelled (of_tree ∙ sym of_lines) (tokens_spelled is.text is.toks is.spelled) in
    subst (λ ws. HasWords (canonical (bare g)) ws) of_lines (lines_lexed (program_lines (bare g)) are is.short)

pub no_words : (ts : List (Tok Place)) → words_of ts ≡ [] → ts ≡ []
no_words [] same = cc
no_words (t ∷ ts) same = cc

-- its tokens are a tree's that is the same apart from places
pub canonical_tree : (g : Prog Place) → IsPrinted g → (others : List Token) → tokens (canonical (bare g)) others → HasTree (canonical (bare g)) others g
canonical_tree g is others are =
    let it = canonical_words g is in
    let one : others ≡ it.toks = one_list (canonical (bare g)) others it.toks are it.are in
    let ts = toks_of is.text is.toks in
    let os = toks_of (canonical (bare g)) others in
    let same : words_of os ≡ words_of ts = ap (λ toks. words_of (toks_of (canonical (bare g)) toks)) one ∙ it.listed ∙ sym (prog-words g ts is.reads) in
    let moved = (prog-moves g).move ts [] is.reads os same in
    record { h = moved.y; reads = subst (λ vs. IsProg moved.y os vs) (no_words moved.vs moved.words) moved.takes; same = moved.like }
