use Rattle.examples_law.proofs.Small.{handled_range_fits}
use Rattle.examples_law.proofs.examples.handled_range_is_well_formed.Goals as goal

pub returns : goal.returns
returns c = handled_range_fits
