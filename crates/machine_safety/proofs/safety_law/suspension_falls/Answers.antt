use Rattle.machine_safety.proofs.Suspending.{suspension_falls}
use Rattle.machine_safety.proofs.safety_law.suspension_falls.Goals as goal

pub returns : goal.returns
returns c = suspension_falls
