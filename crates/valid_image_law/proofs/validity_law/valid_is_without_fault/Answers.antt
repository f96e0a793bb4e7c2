use Rattle.valid_image_law.proofs.Whole.{valid_is_without_fault}
use Rattle.valid_image_law.proofs.validity_law.valid_is_without_fault.Goals as goal

pub returns : goal.returns
returns c = valid_is_without_fault
