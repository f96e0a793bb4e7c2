use Rattle.machine_safety.proofs.Suspending.{release_suspends}
use Rattle.machine_safety.proofs.safety_law.release_suspends.Goals as goal

pub returns : goal.returns
returns c = release_suspends
