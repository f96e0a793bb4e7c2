use Rattle.machine_safety.proofs.Staying.{stay_falls}
use Rattle.machine_safety.proofs.safety_law.stay_falls.Goals as goal

pub returns : goal.returns
returns c = stay_falls
