use Rattle.examples_law.proofs.Computed.{mine_is_made}
use Rattle.examples_law.proofs.made_examples.the_mine_pump_is_made.Goals as goal

pub returns : goal.returns
returns c = mine_is_made
