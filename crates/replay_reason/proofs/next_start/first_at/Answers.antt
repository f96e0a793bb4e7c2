use Rattle.std.proofs.Common.{◌∙◌, ap, arith}
use Rattle.replay_state.specs.View.{config_of}
use Rattle.replay_due_events.specs.Timings.{first_in}
use Rattle.replay_due_events.proofs.Nexting.{frames_count}
use Rattle.replay_reason.proofs.next_start.first_at.Goals as goal

pub first_due-requires : goal.first_due-requires
first_due-requires g c = (c.requires.0, frames_count g.program c.args.rules.now.table.timings.items c.requires.0.timings c.requires.1.0)

pub returns : goal.returns
returns g c =
    c.first_due.ensures c.args.script.now.script.now.end
    ∙ ap first_in (c.up_to.ensures.due g.program (config_of c.args.config.now) c.args.tick (omega (arith, c.requires.1.1.reached)) (omega arith))
