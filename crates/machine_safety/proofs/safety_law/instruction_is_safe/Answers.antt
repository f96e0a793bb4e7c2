use Rattle.machine_safety.proofs.Jobs.{instruction_is_safe}
use Rattle.machine_safety.proofs.safety_law.instruction_is_safe.Goals as goal

pub returns : goal.returns
returns c = instruction_is_safe
