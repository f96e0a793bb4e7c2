use Rattle.std.proofs.Common.{◌≡◌}
use Rattle.image.specs.Raw.{image_of, process_of}
use Rattle.loader_code.proofs.Seeking.{from_index}
use Rattle.faulty_part.specs.Parts.{bound_of_process, bound_part}
use Rattle.validity_parts.proofs.bounds.bound_part_fault.Given as goal

abbrev pub invariant-loop-number : goal.invariant-loop-number
invariant-loop-number l = from_index process_of (bound_of_process (image_of l.raw)) l.raw.processes l.number ≡ bound_part (image_of l.raw)
