use Rattle.std.proofs.Common.{◌≡◌, map}
use Rattle.image.specs.Raw.{image_of, routine_of}
use Rattle.valid_image.specs.Fault.{first_in}
use Rattle.loader_code.proofs.Seeking.{from_index}
use Rattle.loader.proofs.Shaping.{Before}
use Rattle.faulty_part.specs.Parts.{code_of_routine}
use Rattle.validity_parts.proofs.code.routines_fault.Given as goal

abbrev pub invariant-loop-routine : goal.invariant-loop-routine
invariant-loop-routine l = record {
  before : Before l.raw l.parts l.routine-index;
  processes : l.parts.processes ≡ l.initial.parts.processes;
  search : from_index routine_of (code_of_routine (image_of l.raw)) l.raw.routines l.routine-index ≡ first_in (code_of_routine (image_of l.raw)) (map routine_of l.raw.routines);
}
