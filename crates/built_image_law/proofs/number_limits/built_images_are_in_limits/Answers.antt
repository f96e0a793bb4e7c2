use Rattle.built_image_law.proofs.Joined.{in_limits_all}
use Rattle.built_image_law.proofs.number_limits.built_images_are_in_limits.Goals as goal

pub returns : goal.returns
returns c = in_limits_all c.shaped_images_are_in_limits.ensures
