use Rattle.built_image_law.proofs.Bounded.{built_images_have_the_table}
use Rattle.built_image_law.proofs.shape_before_times.built_images_have_the_table.Goals as goal

pub returns : goal.returns
returns c = built_images_have_the_table
