use Rattle.std.proofs.Common.{◌≡◌, map, take}
use Rattle.code_names.specs.Parts.{seen_monitors}
use Rattle.compile_image.proofs.lists.monitor_names.Given as goal

abbrev pub invariant-loop-monitor : goal.invariant-loop-monitor
invariant-loop-monitor l = l.names ≡ map (λ m. m.name) (seen_monitors (take l.monitor-index l.monitors))
