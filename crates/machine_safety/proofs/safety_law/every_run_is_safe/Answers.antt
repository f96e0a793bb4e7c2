use Rattle.machine_safety.proofs.Running.{every_run_is_safe}
use Rattle.machine_safety.proofs.safety_law.every_run_is_safe.Goals as goal

pub returns : goal.returns
returns c = every_run_is_safe
