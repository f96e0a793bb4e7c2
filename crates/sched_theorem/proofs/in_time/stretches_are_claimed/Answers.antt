use Rattle.sched_theorem.proofs.Stretches.{no_longer}
use Rattle.sched_theorem.proofs.in_time.stretches_are_claimed.Goals as goal

pub returns : goal.returns
returns c = λ n cost most end t stay start ticks bound counts run charged stretch within pos few asks. no_longer n cost most end t stay start ticks bound counts run charged stretch within pos few asks
