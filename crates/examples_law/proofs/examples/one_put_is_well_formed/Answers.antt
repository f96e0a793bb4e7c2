use Rattle.examples_law.proofs.Small.{one_put_fits}
use Rattle.examples_law.proofs.examples.one_put_is_well_formed.Goals as goal

pub returns : goal.returns
returns c = one_put_fits
