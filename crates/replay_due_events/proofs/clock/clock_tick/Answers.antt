use Rattle.std.proofs.Common.{◌≡◌, ◌<◌, arith, false, subst, sym}
use Rattle.replay_due_events.specs.NextDue.{release_from}
use Rattle.replay_due_events.specs.Timings.{FrameCounts, is_clocked}
use Rattle.replay_due_events.specs.declared.timetable.Timing.{Timing}
use Rattle.replay_due_events.proofs.Periodic.{none_before}
use Rattle.replay_due_events.proofs.clock.clock_tick.Goals as goal

pub returns-in-Periodic : goal.returns-in-Periodic
returns-in-Periodic c = λ u low high.
    let first = c.in-Periodic.first in
    let frame = c.in-Periodic.frame in
    let counts : 0 < frame = subst (λ (x : Timing). FrameCounts x) c.in-Periodic.is (c.requires.frame 0 c.args.timing (omega arith)) in
    let before : u < release_from first frame c.args.from = omega (arith, high, c.next_release.ensures.next) in
    subst (λ (x : Timing). is_clocked u x ≡ false) (sym c.in-Periodic.is) (none_before first frame c.args.from u counts low before)
