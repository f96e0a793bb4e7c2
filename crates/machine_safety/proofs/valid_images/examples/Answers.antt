use Rattle.machine_safety.proofs.Computed.{examples_are}
use Rattle.machine_safety.proofs.valid_images.examples.Goals as goal

pub returns : goal.returns
returns c = examples_are
