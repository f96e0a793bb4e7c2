use Rattle.valid_image_law.proofs.Staying.{stays_are_reached}
use Rattle.valid_image_law.proofs.seven_rules.stays_are_reached.Goals as goal

pub returns : goal.returns
returns c = stays_are_reached
