use Rattle.machine_safety.proofs.Settling.{every_tick_is_safe}
use Rattle.machine_safety.proofs.safety_law.every_tick_is_safe.Goals as goal

pub returns : goal.returns
returns c = every_tick_is_safe
