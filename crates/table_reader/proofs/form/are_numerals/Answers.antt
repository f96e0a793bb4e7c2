use Rattle.std.proofs.Common.{◌∙◌, get_or, refl, sym}
use Rattle.std.specs.Prelude.{IsTrue}
use Rattle.std.proofs.lemmas.Bool.{false≢true}
use Rattle.std.proofs.lemmas.List.{get_or_default}
use Rattle.table_format.specs.Spelling.{Word}
use Rattle.table_format.specs.Faults.{is_numeral}
use Rattle.table_reader.proofs.Items.{no_word}
use Rattle.table_reader.proofs.Loops.{all_more, all_done, not_all}
use Rattle.table_reader.proofs.form.are_numerals.Goals as goal

abbrev Numeral : Word → Type 0
Numeral word = IsTrue (is_numeral word)

pub returns-then-not-is_numeral : goal.returns-then-not-is_numeral
returns-then-not-is_numeral c =
    let i = c.loop-word.word-index in
    let word = get_or c.args.words.now i no_word in
    let at = get_or_default c.args.words.now i no_word word c.loop-word-test.true in
    let bad : ¬ Numeral word.now = λ t. absurd (false≢true (sym c.if-not-is_numeral.true ∙ (c.is_numeral.ensures ∙ t))) in
    ((λ e. absurd (false≢true e)), (λ all. absurd (not_all Numeral c.args.words.now i word c.loop-word-test.true at bad all)))

pub loop-word-preserved : goal.loop-word-preserved
loop-word-preserved c =
    let i = c.loop-word.word-index in
    let word = get_or c.args.words.now i no_word in
    let at = get_or_default c.args.words.now i no_word word c.loop-word-test.true in
    all_more Numeral c.args.words.now i word c.loop-word-test.true at c.loop-word.invariant (sym c.is_numeral.ensures ∙ c.if-not-is_numeral.false)

pub returns : goal.returns
returns c = ((λ e. all_done Numeral c.args.words.now c.loop-word.word-index c.loop-word-test.false c.loop-word.invariant), (λ all. refl))
