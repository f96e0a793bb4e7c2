use Rattle.std.proofs.Common.{◌≡◌, drop}
use Rattle.replay_state.specs.View.{jobs_of}
use Rattle.replay_due_events.specs.Timings.{expired, first_in}
use Rattle.replay_due_events.proofs.due_starts.by_waits.Given as goal

abbrev pub invariant-loop-process : goal.invariant-loop-process
invariant-loop-process l = first_in (expired (jobs_of l.jobs) l.tick (drop l.process-index l.by_rank)) ≡ first_in (expired (jobs_of l.jobs) l.tick l.by_rank)
