use Rattle.std.proofs.Common.{◌∙◌, ap, sym}
use Rattle.source_semantics.specs.Starts.{NoneMissing}
use Rattle.replay_due_events.specs.NextDue.{is_after, next_due, next_in_order}
use Rattle.replay_state.specs.View.{config_of}
use Rattle.script.specs.Meaning.{said}
use Rattle.replay_due_events.proofs.Nexting.{frames_count, told}
use Rattle.replay_due_events.proofs.no_overdue_start.is_none_missing_before.Goals as goal

pub is_next_after-requires : goal.is_next_after-requires
is_next_after-requires g c = (c.requires.0, (frames_count g.program c.args.table.now.timings.items c.requires.0.timings c.requires.1.0, (c.requires.1.1.0, c.requires.1.1.1)))

pub returns : goal.returns
returns g c = λ end.
    let s = said c.args.lines.now end in
    let k = config_of c.args.config.now in
    told (NoneMissing g.program s k c.args.until) c.is_next_after.result (is_after c.args.until (next_due g.program s k))
    (c.is_next_after.ensures end ∙ sym (ap (is_after c.args.until) (c.waits_stand_in_any_order.ensures g.program s k)))
    (c.none_missing_is_one_comparison.ensures g.program s k c.args.until c.requires.1.0)
