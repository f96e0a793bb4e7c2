use Rattle.machine_safety.proofs.Working.{release_owes}
use Rattle.machine_safety.proofs.safety_law.release_owes.Goals as goal

pub returns : goal.returns
returns c = release_owes
