use Rattle.machine_safety.proofs.Ticking.{tick_is_safe}
use Rattle.machine_safety.proofs.safety_law.tick_is_safe.Goals as goal

pub returns : goal.returns
returns c = tick_is_safe
