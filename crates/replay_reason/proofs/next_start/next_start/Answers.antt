use Rattle.replay_due_events.specs.Timings.{event_of}
use Rattle.replay_state.specs.View.{config_of}
use Rattle.replay_script.specs.Cursors.{script_in}
use Rattle.replay_accept.specs.Running.{program_of}
use Rattle.replay_reason.proofs.Finding.{next_at, tick_of_start}
use Rattle.replay_reason.proofs.next_start.next_start.Goals as goal

pub returns-in-Some-start_at-clause-some : goal.returns-in-Some-start_at-clause-some
returns-in-Some-start_at-clause-some c =
    next_at (program_of c.args.rules.now) (script_in c.args.script.now) (config_of c.args.config.now) c.args.until c.in-Some.tick (event_of c.in-Some.tick c.in-Some-start_at.start)
    c.in-Some.ensures.some (tick_of_start c.in-Some.tick c.in-Some-start_at.start) c.in-Some-start_at.ensures
