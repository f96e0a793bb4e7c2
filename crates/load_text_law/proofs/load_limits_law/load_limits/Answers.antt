use Rattle.load_text_law.proofs.Joined.{limits_kept}
use Rattle.load_text_law.proofs.load_limits_law.load_limits.Goals as goal

pub returns : goal.returns
returns c key count some few g same number place fails = limits_kept key count some few g same number place fails
