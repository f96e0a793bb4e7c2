use Rattle.machine_safety.proofs.Computed.{smallest_are}
use Rattle.machine_safety.proofs.valid_images.smallest.Goals as goal

pub returns : goal.returns
returns c = smallest_are
