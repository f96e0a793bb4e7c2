use Rattle.built_image_law.proofs.Stacks.{stacks_are_in_limits}
use Rattle.built_image_law.proofs.number_limits.stacks_are_in_limits.Goals as goal

pub returns : goal.returns
returns c = stacks_are_in_limits
