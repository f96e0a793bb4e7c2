use Rattle.load_law.proofs.LightJoined.{respond}
use Rattle.load_law.proofs.low_utilization.light_images_respond.Goals as goal

pub returns : goal.returns
returns c = respond
