use Rattle.built_image_law.proofs.Stays.{blocks_are_in_limits}
use Rattle.built_image_law.proofs.number_limits.blocks_are_in_limits.Goals as goal

pub returns : goal.returns
returns c = blocks_are_in_limits
