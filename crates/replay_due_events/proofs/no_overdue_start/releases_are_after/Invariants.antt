use Rattle.std.proofs.Common.{◌≡◌, drop}
use Rattle.replay_due_events.specs.NextDue.{is_after}
use Rattle.replay_state.specs.View.{jobs_of}
use Rattle.replay_due_events.specs.Next.{timings_due}
use Rattle.replay_due_events.proofs.no_overdue_start.releases_are_after.Given as goal

abbrev pub invariant-loop-process : goal.invariant-loop-process
invariant-loop-process l = is_after l.until (timings_due (jobs_of l.jobs) l.from l.process (drop l.process l.timings)) ≡ is_after l.until (timings_due (jobs_of l.jobs) l.from 0 l.timings)
