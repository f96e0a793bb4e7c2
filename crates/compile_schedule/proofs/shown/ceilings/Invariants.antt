use Rattle.std.proofs.Common.{◌≡◌, map, take}
use Rattle.image.specs.Raw.{monitor_of}
use Rattle.built_image.specs.Shown.{ceiling_shown}
use Rattle.compile_schedule.proofs.shown.ceilings.Given as goal

abbrev pub invariant-loop-monitor : goal.invariant-loop-monitor
invariant-loop-monitor l = l.all ≡ map (λ x. ceiling_shown (monitor_of x)) (take l.monitor-index l.monitors)
