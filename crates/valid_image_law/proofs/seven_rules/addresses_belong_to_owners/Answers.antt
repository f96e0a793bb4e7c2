use Rattle.valid_image_law.proofs.Reached.{addresses_belong_to_owners}
use Rattle.valid_image_law.proofs.seven_rules.addresses_belong_to_owners.Goals as goal

pub returns : goal.returns
returns c = addresses_belong_to_owners
