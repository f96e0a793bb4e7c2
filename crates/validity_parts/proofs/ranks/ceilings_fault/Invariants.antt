use Rattle.std.proofs.Common.{◌≡◌, map}
use Rattle.image.specs.Raw.{image_of, monitor_of}
use Rattle.valid_image.specs.Fault.{first_in}
use Rattle.loader_code.proofs.Seeking.{from_index}
use Rattle.faulty_part.specs.Parts.{ceiling_of_monitor}
use Rattle.validity_parts.proofs.ranks.ceilings_fault.Given as goal

abbrev pub invariant-loop-number : goal.invariant-loop-number
invariant-loop-number l = from_index monitor_of (ceiling_of_monitor (image_of l.raw)) l.raw.monitors l.number ≡ first_in (ceiling_of_monitor (image_of l.raw)) (map monitor_of l.raw.monitors)
