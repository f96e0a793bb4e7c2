use Rattle.replay_due_events.proofs.ClockFree.{IsFreeOf}
use Rattle.replay_due_events.proofs.clock.next_clock_tick.Given as goal

abbrev pub invariant-loop-timing : goal.invariant-loop-timing
invariant-loop-timing l = IsFreeOf l.timings l.timing-index l.from l.least
