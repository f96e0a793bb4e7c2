use Rattle.examples_law.proofs.Small.{early_deadline_fits}
use Rattle.examples_law.proofs.examples.early_deadline_is_well_formed.Goals as goal

pub returns : goal.returns
returns c = early_deadline_fits
