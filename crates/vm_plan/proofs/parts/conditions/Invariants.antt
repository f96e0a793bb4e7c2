use Rattle.std.proofs.Common.{◌≡◌, map, take}
use Rattle.vm_plan.proofs.parts.conditions.Given as goal

abbrev pub invariant-loop-name : goal.invariant-loop-name
invariant-loop-name l = l.monitors.items ≡ map (λ name. name.mon) (take l.name-index l.names)
