use Rattle.std.proofs.Common.{◌≡◌, take}
use Rattle.vm_plan.proofs.parts.instructions.Given as goal

abbrev pub invariant-loop-at : goal.invariant-loop-at
invariant-loop-at l = l.code.items ≡ take l.at l.image.image.code
