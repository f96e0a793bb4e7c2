use Rattle.machine_safety.proofs.Entering.{stay_begins}
use Rattle.machine_safety.proofs.safety_law.stay_begins.Goals as goal

pub returns : goal.returns
returns c = stay_begins
