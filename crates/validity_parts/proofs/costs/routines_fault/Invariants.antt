use Rattle.std.proofs.Common.{◌≡◌, map}
use Rattle.image.specs.Raw.{image_of, routine_of}
use Rattle.valid_image.specs.Fault.{first_in}
use Rattle.loader_code.proofs.Seeking.{from_index}
use Rattle.faulty_part.specs.Parts.{cost_of_routine}
use Rattle.validity_parts.proofs.costs.routines_fault.Given as goal

abbrev pub invariant-loop-r : goal.invariant-loop-r
invariant-loop-r l = from_index routine_of (cost_of_routine (image_of l.raw)) l.raw.routines l.r ≡ first_in (cost_of_routine (image_of l.raw)) (map routine_of l.raw.routines)
