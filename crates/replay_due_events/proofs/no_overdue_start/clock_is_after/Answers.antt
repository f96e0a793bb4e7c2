use Rattle.std.proofs.Common.{arith, sym}
use Rattle.replay_state.specs.View.{jobs_of}
use Rattle.replay_due_events.proofs.ClockFree.{free_within, timings_rest}
use Rattle.replay_due_events.proofs.no_overdue_start.clock_is_after.Goals as goal

pub returns-then-until-free_until : goal.returns-then-until-free_until
returns-then-until-free_until c =
    sym (timings_rest (jobs_of c.args.jobs.now) c.args.from c.args.until 0 c.args.timings.now c.requires.frames
    (free_within c.args.timings.now c.args.from c.args.free_until c.args.from c.args.until (omega arith) (omega arith) c.requires.free))
