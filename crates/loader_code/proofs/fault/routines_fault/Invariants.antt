use Rattle.std.proofs.Common.{◌≡◌}
use Rattle.image.specs.Raw.{image_of, routine_of}
use Rattle.valid_image.specs.Operands.{operand_fault_in, whose_routine, routines_operand_fault}
use Rattle.loader_code.proofs.Seeking.{from_index}
use Rattle.loader_code.proofs.fault.routines_fault.Given as goal

abbrev pub invariant-loop-number : goal.invariant-loop-number
invariant-loop-number l = from_index routine_of (λ r x. operand_fault_in (image_of l.image) r (whose_routine r x)) l.image.routines l.number ≡ routines_operand_fault (image_of l.image)
