use Rattle.machine_safety.proofs.Plain.{plain_is_safe}
use Rattle.machine_safety.proofs.safety_law.plain_is_safe.Goals as goal

pub returns : goal.returns
returns c = plain_is_safe
