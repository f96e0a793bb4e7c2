use Rattle.load_law.proofs.LoadCostsJoined.{light_load}
use Rattle.load_law.proofs.load_cost.load_is_light.Goals as goal

pub returns : goal.returns
returns c key count some few m shaped = light_load key count some few m shaped
