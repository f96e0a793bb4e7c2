use Rattle.std.proofs.Common.{◌≡◌, map}
use Rattle.image.specs.Raw.{routine_of}
use Rattle.valid_image.specs.Fault.{first_in}
use Rattle.loader_code.proofs.Seeking.{from_index}
use Rattle.faulty_part.specs.Parts.{locals_of_routine}
use Rattle.validity_parts.proofs.sizes.routines_fault.Given as goal

abbrev pub invariant-loop-r : goal.invariant-loop-r
invariant-loop-r l = from_index routine_of locals_of_routine l.raw.routines l.r ≡ first_in locals_of_routine (map routine_of l.raw.routines)
