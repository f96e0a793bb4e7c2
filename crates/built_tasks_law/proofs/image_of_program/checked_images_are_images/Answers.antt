use Rattle.built_tasks_law.proofs.Joined.{images_are_images}
use Rattle.built_tasks_law.proofs.image_of_program.checked_images_are_images.Goals as goal

pub returns : goal.returns
returns c = images_are_images c.checked_code_is_an_image.ensures
