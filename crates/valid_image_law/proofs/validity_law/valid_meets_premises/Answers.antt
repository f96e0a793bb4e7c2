use Rattle.valid_image_law.proofs.Whole.{valid_meets_premises}
use Rattle.valid_image_law.proofs.validity_law.valid_meets_premises.Goals as goal

pub returns : goal.returns
returns c = valid_meets_premises
