use Rattle.built_image_law.proofs.Images.{built_images_are_one}
use Rattle.built_image_law.proofs.one_image.built_images_are_one.Goals as goal

pub returns : goal.returns
returns c = built_images_are_one c.shapes_agree.ensures
