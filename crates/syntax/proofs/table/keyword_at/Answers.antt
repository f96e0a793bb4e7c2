use Rattle.std.proofs.Common.{arith, sym, ◌∙◌, ap, slice_get}
use Rattle.syntax.specs.Spellings.{keywords}
use Rattle.syntax.proofs.TableLemmas.{slice_get_at, keyword_short}
use Rattle.std.specs.Cmp.Lexicographic.{other_text}
use Rattle.std.proofs.lemmas.Option.{same_Some}
use Rattle.syntax.proofs.table.keyword_at.Goals as goal

pub returns-then-word-gt-LONGEST_KEYWORD-clause-none :
    goal.returns-then-word-gt-LONGEST_KEYWORD-clause-none
returns-then-word-gt-LONGEST_KEYWORD-clause-none c is = let short = keyword_short c.args.word.now is in omega (arith, short)

pub returns-else-eq-clause-none : goal.returns-else-eq-clause-none
returns-else-eq-clause-none c is =
    let stands = slice_get_at keywords c.args.word.now is in
    let place = c.place-at.ensures.only stands.0 stands.1 in
    let same = same_Some _ _ (sym c.keyword_spelling.ensures ∙ ap (slice_get keywords) place ∙ stands.1) in
    other_text _ _ (sym c.if-eq.false ∙ c.eq.ensures) same
