use Rattle.machine_safety.proofs.Queueing.{run_keeps_queues}
use Rattle.machine_safety.proofs.safety_law.run_keeps_queues.Goals as goal

pub returns : goal.returns
returns c = run_keeps_queues
