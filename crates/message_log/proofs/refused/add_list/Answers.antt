use Rattle.std.proofs.Common.{codes}
use Rattle.std.proofs.lemmas.Result.{on_ok_weaker}
use Rattle.message_text.specs.Words.{note}
use Rattle.message_log.proofs.Listing.{in_parts}
use Rattle.message_log.proofs.refused.add_list.Goals as goal

pub returns : goal.returns
returns c =
    on_ok_weaker c.add_more.result
    (in_parts c.args.names.now c.args.events.now c.shown.result.now c.args.text.now (note (codes "due, and not come:")) c.add_note.new.text c.add_events.new.text c.add_more.new.text
    c.in_ok-add_note.ensures c.in_ok-add_events.ensures c.shown.ensures)
    c.add_more.ensures
