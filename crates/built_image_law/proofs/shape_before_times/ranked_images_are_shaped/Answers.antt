use Rattle.built_image_law.proofs.Shapes.{ranked_images_are_shaped}
use Rattle.built_image_law.proofs.shape_before_times.ranked_images_are_shaped.Goals as goal

pub returns : goal.returns
returns c = ranked_images_are_shaped
