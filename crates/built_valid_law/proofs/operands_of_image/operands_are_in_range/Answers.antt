use Rattle.built_valid_law.proofs.Whole.{operands_are_in_range}
use Rattle.built_valid_law.proofs.operands_of_image.operands_are_in_range.Goals as goal

pub returns : goal.returns
returns c = operands_are_in_range
