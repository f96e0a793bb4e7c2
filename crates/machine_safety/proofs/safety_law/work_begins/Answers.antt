use Rattle.machine_safety.proofs.Beginning.{work_begins}
use Rattle.machine_safety.proofs.safety_law.work_begins.Goals as goal

pub returns : goal.returns
returns c = work_begins
