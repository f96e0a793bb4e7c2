use Rattle.built_image_law.proofs.Bounded.{bounded_images_are_built}
use Rattle.built_image_law.proofs.shape_before_times.bounded_images_are_built.Goals as goal

pub returns : goal.returns
returns c = bounded_images_are_built
