use Rattle.text_fields.proofs.Cuts.{cut_lacks}
use Rattle.text_fields.proofs.cut.is_word.Goals as goal

pub returns-in-Some-clause-no : goal.returns-in-Some-clause-no
returns-in-Some-clause-no c same word =
    cut_lacks 32 c.args.bytes.now c.in-Some.field-0.before.now c.in-Some.field-0.after.now word.no_space c.in-Some.ensures.found.whole
