use Rattle.built_image_law.proofs.Numbers.{handlers_take_numbers}
use Rattle.built_image_law.proofs.number_limits.handlers_take_numbers.Goals as goal

pub returns : goal.returns
returns c = handlers_take_numbers
