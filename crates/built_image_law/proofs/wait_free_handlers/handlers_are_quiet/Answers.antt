use Rattle.built_image_law.proofs.Handlers.{checked_is_quiet}
use Rattle.built_image_law.proofs.wait_free_handlers.handlers_are_quiet.Goals as goal

pub returns : goal.returns
returns c = checked_is_quiet (record {
  apart = c.names_stand_apart.ensures;
  written = c.trees_are_written.ensures;
  found = c.names_are_found.ensures;
  things = c.things_are_known.ensures;
  all_names = c.declarations_are_listed.ensures.names;
  all_parts = c.declarations_are_listed.ensures.parts;
  mirrored = c.texts_are_mirrored.ensures;
  answers = c.answers_fit.ensures;
  bodies = c.bodies_fit.ensures;
  falling = c.calls_have_levels.ensures;
  levels = c.routines_have_levels.ensures;
})
