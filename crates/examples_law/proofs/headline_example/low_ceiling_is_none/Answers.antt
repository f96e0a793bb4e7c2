use Rattle.examples_law.proofs.Adding.{low_ceiling_is_none}
use Rattle.examples_law.proofs.headline_example.low_ceiling_is_none.Goals as goal

pub returns : goal.returns
returns c = low_ceiling_is_none
