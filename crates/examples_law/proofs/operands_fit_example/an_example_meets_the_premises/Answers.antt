use Rattle.examples_law.proofs.MadeFitsMeeting.{example_fits}
use Rattle.examples_law.proofs.operands_fit_example.an_example_meets_the_premises.Goals as goal

pub returns : goal.returns
returns c = example_fits
