use Rattle.std.proofs.Common.{◌≡◌, drop}
use Rattle.replay_due_events.specs.NextDue.{is_after}
use Rattle.replay_state.specs.View.{jobs_of}
use Rattle.replay_due_events.specs.Next.{jobs_due}
use Rattle.replay_due_events.proofs.no_overdue_start.waits_are_after.Given as goal

abbrev pub invariant-loop-job : goal.invariant-loop-job
invariant-loop-job l = is_after l.until (jobs_due l.from (jobs_of (drop l.job-index l.jobs))) ≡ is_after l.until (jobs_due l.from (jobs_of l.jobs))
