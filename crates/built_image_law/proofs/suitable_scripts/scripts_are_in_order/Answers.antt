use Rattle.built_image_law.proofs.Suiting.{scripts_are_in_order}
use Rattle.built_image_law.proofs.suitable_scripts.scripts_are_in_order.Goals as goal

pub returns : goal.returns
returns c = scripts_are_in_order
