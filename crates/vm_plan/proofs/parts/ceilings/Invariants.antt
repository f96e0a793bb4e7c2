use Rattle.std.proofs.Common.{◌≡◌, map, take}
use Rattle.vm_plan.proofs.parts.ceilings.Given as goal

abbrev pub invariant-loop-number : goal.invariant-loop-number
invariant-loop-number l = l.ceilings.items ≡ map (λ m. m.ceiling) (take l.number l.image.image.monitors)
