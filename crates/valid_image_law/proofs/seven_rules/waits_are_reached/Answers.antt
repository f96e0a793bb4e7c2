use Rattle.valid_image_law.proofs.Reached.{waits_are_reached}
use Rattle.valid_image_law.proofs.seven_rules.waits_are_reached.Goals as goal

pub returns : goal.returns
returns c = waits_are_reached
