use Rattle.built_image_law.proofs.GeneratedRunsJoined.{made_is_code}
use Rattle.built_image_law.proofs.runs_of_generated.what_is_made_of_a_checked_program_is_its_code.Goals as goal

pub returns : goal.returns
returns c = made_is_code c.checked_programs_are_ready.ensures c.what_is_generated_is_code.ensures
