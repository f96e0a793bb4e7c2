use Rattle.std.proofs.Common.{◌≡◌, map, take}
use Rattle.image.specs.declared.raw.RawMonitor.{RawMonitor}
use Rattle.compile_schedule.proofs.shown.words.Given as goal

abbrev pub invariant-loop-monitor : goal.invariant-loop-monitor
invariant-loop-monitor l = l.all ≡ map (λ (x : RawMonitor). x.words) (take l.monitor-index l.monitors)
