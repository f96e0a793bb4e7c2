use Rattle.std.proofs.Common.{◌∙◌, get_or, refl, sym}
use Rattle.std.proofs.lemmas.Bool.{false≢true}
use Rattle.std.proofs.lemmas.List.{get_or_default}
use Rattle.table_format.specs.Rules.{IsName}
use Rattle.table_reader.proofs.Items.{no_word}
use Rattle.table_reader.proofs.Loops.{all_more, all_done, not_all}
use Rattle.table_reader.proofs.form.are_names.Goals as goal

pub returns-then-not-is_name : goal.returns-then-not-is_name
returns-then-not-is_name c =
    let i = c.loop-word.word-index in
    let word = get_or c.args.words.now i no_word in
    let at = get_or_default c.args.words.now i no_word word c.loop-word-test.true in
    let bad : ¬ IsName word.now = λ t. absurd (false≢true (sym c.if-not-is_name.true ∙ c.is_name.ensures.1 t)) in
    ((λ e. absurd (false≢true e)), (λ all. absurd (not_all IsName c.args.words.now i word c.loop-word-test.true at bad all)))

pub loop-word-preserved : goal.loop-word-preserved
loop-word-preserved c =
    let i = c.loop-word.word-index in
    let word = get_or c.args.words.now i no_word in
    let at = get_or_default c.args.words.now i no_word word c.loop-word-test.true in
    all_more IsName c.args.words.now i word c.loop-word-test.true at c.loop-word.invariant (c.is_name.ensures.0 c.if-not-is_name.false)

pub returns : goal.returns
returns c = ((λ e. all_done IsName c.args.words.now c.loop-word.word-index c.loop-word-test.false c.loop-word.invariant), (λ all. refl))
