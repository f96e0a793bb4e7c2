use Rattle.load_text_law.proofs.Numbers.{numbers_kept}
use Rattle.load_text_law.proofs.load_limits_law.load_numbers.Goals as goal

pub returns : goal.returns
returns c key count g same number place fails = numbers_kept key count g same number place fails
