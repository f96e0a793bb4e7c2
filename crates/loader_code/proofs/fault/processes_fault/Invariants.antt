use Rattle.std.proofs.Common.{◌≡◌}
use Rattle.image.specs.Raw.{image_of, process_of}
use Rattle.valid_image.specs.Operands.{operand_fault_in, whose_process, processes_operand_fault}
use Rattle.valid_image.specs.Pieces.{piece_number}
use Rattle.loader_code.proofs.Seeking.{from_index}
use Rattle.loader_code.proofs.fault.processes_fault.Given as goal

abbrev pub invariant-loop-number : goal.invariant-loop-number
invariant-loop-number l = from_index process_of (λ k p. operand_fault_in (image_of l.image) (piece_number (image_of l.image) k) (whose_process (image_of l.image) k p)) l.image.processes l.number ≡ processes_operand_fault (image_of l.image)
