use Rattle.built_image_law.proofs.CheckedJoined.{ready}
use Rattle.built_image_law.proofs.premises_of_laws.checked_programs_are_ready.Goals as goal

pub returns : goal.returns
returns c = ready c.checked_programs_are_well_formed.ensures c.names_are_apart.ensures c.routines_have_numbers.ensures c.well_formed_programs_are_sound.ensures c.handlers_are_quiet.ensures
