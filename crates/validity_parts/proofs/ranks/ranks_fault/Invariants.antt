use Rattle.std.proofs.Common.{◌≡◌, map}
use Rattle.image.specs.Raw.{image_of, process_of}
use Rattle.valid_image.specs.Fault.{first_in}
use Rattle.loader_code.proofs.Seeking.{from_index}
use Rattle.faulty_part.specs.Parts.{rank_of_process}
use Rattle.validity_parts.proofs.ranks.ranks_fault.Given as goal

abbrev pub invariant-loop-number : goal.invariant-loop-number
invariant-loop-number l = from_index process_of (rank_of_process (image_of l.raw)) l.raw.processes l.number ≡ first_in (rank_of_process (image_of l.raw)) (map process_of l.raw.processes)
