use Rattle.std.proofs.Common.{◌≡◌, drop}
use Rattle.replay_state.specs.View.{jobs_of}
use Rattle.replay_due_events.specs.Timings.{first_in, released_by}
use Rattle.replay_due_events.proofs.due_starts.by_event.Given as goal

abbrev pub invariant-loop-process : goal.invariant-loop-process
invariant-loop-process l = first_in (released_by (jobs_of l.jobs) l.tick l.event l.process (drop l.process l.timings)) ≡ first_in (released_by (jobs_of l.jobs) l.tick l.event 0 l.timings)
