use Rattle.machine_safety.proofs.Entering.{enters_free}
use Rattle.machine_safety.proofs.safety_law.enters_free.Goals as goal

pub returns : goal.returns
returns c = enters_free
