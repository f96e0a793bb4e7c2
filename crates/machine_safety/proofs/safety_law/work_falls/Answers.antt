use Rattle.machine_safety.proofs.Working.{work_falls}
use Rattle.machine_safety.proofs.safety_law.work_falls.Goals as goal

pub returns : goal.returns
returns c = work_falls
