use Rattle.wellformed_law.proofs.WellFormed.{checked_is_well_formed}
use Rattle.wellformed_law.proofs.wellformed_law.checked_programs_are_well_formed.Goals as goal

pub returns : goal.returns
returns c = checked_is_well_formed (record {
  apart = c.names_stand_apart.ensures;
  written = c.trees_are_written.ensures;
  found = c.names_are_found.ensures;
  things = c.things_are_known.ensures;
  all_names = c.declarations_are_listed.ensures.names;
  all_parts = c.declarations_are_listed.ensures.parts;
  mirrored = c.texts_are_mirrored.ensures;
  answers = c.answers_fit.ensures;
  bodies = c.bodies_fit.ensures;
  falling = c.calls_have_levels.ensures;
  levels = c.routines_have_levels.ensures;
})
