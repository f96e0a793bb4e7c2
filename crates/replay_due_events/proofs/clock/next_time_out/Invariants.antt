use Rattle.std.proofs.Common.{ℕ, ◌≤◌, drop}
use Rattle.replay_state.specs.View.{jobs_of}
use Rattle.replay_due_events.specs.Next.{AreWaitsAfter}
use Rattle.replay_due_events.proofs.clock.next_time_out.Given as goal

abbrev pub invariant-loop-job : goal.invariant-loop-job
invariant-loop-job l = (t : ℕ) → t ≤ l.least → AreWaitsAfter t (jobs_of (drop l.job-index l.jobs)) → AreWaitsAfter t (jobs_of l.jobs)
