use Rattle.machine_safety.proofs.Running.{state_fits}
use Rattle.machine_safety.proofs.safety_law.run_fits.Goals as goal

pub returns : goal.returns
returns c = state_fits
