use Rattle.machine_safety.proofs.Queueing.{tick_keeps_queues}
use Rattle.machine_safety.proofs.safety_law.tick_keeps_queues.Goals as goal

pub returns : goal.returns
returns c = tick_keeps_queues
