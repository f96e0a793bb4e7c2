use Rattle.examples_law.proofs.Computed.{wait_is_made}
use Rattle.examples_law.proofs.made_examples.the_signalled_wait_is_made.Goals as goal

pub returns : goal.returns
returns c = wait_is_made
