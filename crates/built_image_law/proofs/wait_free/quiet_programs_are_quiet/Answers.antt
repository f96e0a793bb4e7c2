use Rattle.built_image_law.proofs.QuietLemmas.{quiet_programs_are_quiet}
use Rattle.built_image_law.proofs.wait_free.quiet_programs_are_quiet.Goals as goal

pub returns : goal.returns
returns c = quiet_programs_are_quiet
