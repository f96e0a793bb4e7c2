use Rattle.valid_image_law.proofs.Binding.{bound_are_reached}
use Rattle.valid_image_law.proofs.seven_rules.bound_are_reached.Goals as goal

pub returns : goal.returns
returns c = bound_are_reached
