use Rattle.examples_law.proofs.Small.{signalled_wait_fits}
use Rattle.examples_law.proofs.examples.signalled_wait_is_well_formed.Goals as goal

pub returns : goal.returns
returns c = signalled_wait_fits
