use Rattle.std.proofs.Common.{◌≡◌, map}
use Rattle.image.specs.Raw.{image_of, process_of}
use Rattle.valid_image.specs.Fault.{first_in}
use Rattle.loader_code.proofs.Seeking.{from_index}
use Rattle.faulty_part.specs.Parts.{stack_of_process}
use Rattle.validity_parts.proofs.sizes.processes_fault.Given as goal

abbrev pub invariant-loop-k : goal.invariant-loop-k
invariant-loop-k l = from_index process_of (stack_of_process (image_of l.raw)) l.raw.processes l.k ≡ first_in (stack_of_process (image_of l.raw)) (map process_of l.raw.processes)
