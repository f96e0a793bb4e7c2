use Rattle.machine_safety.proofs.Beginning.{suspension_begins}
use Rattle.machine_safety.proofs.safety_law.suspension_begins.Goals as goal

pub returns : goal.returns
returns c = suspension_begins
