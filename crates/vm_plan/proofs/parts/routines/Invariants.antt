use Rattle.std.proofs.Common.{◌≡◌, map, take}
use Rattle.vm_plan.specs.Called.{called_of}
use Rattle.vm_plan.proofs.parts.routines.Given as goal

abbrev pub invariant-loop-number : goal.invariant-loop-number
invariant-loop-number l = l.called.items ≡ map called_of (take l.number l.image.image.routines)
