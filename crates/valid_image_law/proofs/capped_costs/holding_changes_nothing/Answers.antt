use Rattle.valid_image_law.proofs.Holding.{holding_changes_nothing}
use Rattle.valid_image_law.proofs.capped_costs.holding_changes_nothing.Goals as goal

pub returns : goal.returns
returns c = holding_changes_nothing
