use Rattle.built_image_law.proofs.CheckedJoined.{images_made}
use Rattle.built_image_law.proofs.premises_of_laws.checked_images_are_made.Goals as goal

pub returns : goal.returns
returns c = images_made c.checked_programs_are_ready.ensures
