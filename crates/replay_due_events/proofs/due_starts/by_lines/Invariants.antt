use Rattle.std.proofs.Common.{◌≡◌, drop}
use Rattle.replay_state.specs.View.{jobs_of}
use Rattle.replay_due_events.specs.Timings.{first_in, released_in}
use Rattle.replay_due_events.proofs.due_starts.by_lines.Given as goal

abbrev pub invariant-loop-line : goal.invariant-loop-line
invariant-loop-line l = first_in (released_in (jobs_of l.jobs) l.timings l.tick (drop l.line-index l.lines)) ≡ first_in (released_in (jobs_of l.jobs) l.timings l.tick l.lines)
