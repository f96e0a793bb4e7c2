use Rattle.text_fields.proofs.Cuts.{cut_lacks}
use Rattle.event_log.proofs.words.is_name.Goals as goal

pub returns-in-Some-clause-no : goal.returns-in-Some-clause-no
returns-in-Some-clause-no c same word =
    cut_lacks 10 c.args.bytes.now c.in-Some.field-0.before.now c.in-Some.field-0.after.now word.no_line_feed c.in-Some.ensures.found.whole
