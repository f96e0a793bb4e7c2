use Rattle.load_text_law.proofs.Reach.{reach_kept}
use Rattle.load_text_law.proofs.load_limits_law.load_reach.Goals as goal

pub returns : goal.returns
returns c key count g same number place fails = reach_kept key count g same number place fails
