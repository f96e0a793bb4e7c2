use Rattle.replay_due_events.proofs.ClockFree.{free_of_more, some_timing}
use Rattle.replay_due_events.proofs.clock.next_clock_tick.Goals as goal

pub loop-timing-preserved : goal.loop-timing-preserved
loop-timing-preserved c =
    free_of_more c.args.timings.now c.loop-timing.timing-index c.args.from c.loop-timing.least c.clock_tick-tick.result some_timing c.loop-timing.invariant c.clock_tick-tick.ensures
    c.earlier-least.result c.earlier-least.ensures.first c.earlier-least.ensures.second
