use Rattle.std.proofs.Common.{arith, sym}
use Rattle.replay_state.specs.View.{jobs_of}
use Rattle.replay_due_events.proofs.Waits.{less_waits, waits_rest}
use Rattle.replay_due_events.proofs.no_overdue_start.time_outs_are_after.Goals as goal

pub returns-then-until-free_until : goal.returns-then-until-free_until
returns-then-until-free_until c =
    sym (waits_rest c.args.from c.args.until (jobs_of c.args.jobs.now) (less_waits c.args.until c.args.free_until (jobs_of c.args.jobs.now) (omega arith) c.requires))
