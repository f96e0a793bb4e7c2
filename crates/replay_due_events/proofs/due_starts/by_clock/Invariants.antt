use Rattle.std.proofs.Common.{◌≡◌, drop}
use Rattle.replay_state.specs.View.{jobs_of}
use Rattle.replay_due_events.specs.Timings.{clocked, first_in}
use Rattle.replay_due_events.proofs.due_starts.by_clock.Given as goal

abbrev pub invariant-loop-process : goal.invariant-loop-process
invariant-loop-process l = first_in (clocked (jobs_of l.jobs) l.tick l.process (drop l.process l.timings)) ≡ first_in (clocked (jobs_of l.jobs) l.tick 0 l.timings)
