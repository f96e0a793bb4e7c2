use Rattle.machine_safety.proofs.Computed.{more_examples_are}
use Rattle.machine_safety.proofs.valid_images.more_examples.Goals as goal

pub returns : goal.returns
returns c = more_examples_are
