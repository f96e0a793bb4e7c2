use Rattle.valid_image_law.proofs.Sweeping.{sweeping_finds_owners}
use Rattle.valid_image_law.proofs.capped_costs.sweeping_finds_owners.Goals as goal

pub returns : goal.returns
returns c = sweeping_finds_owners
