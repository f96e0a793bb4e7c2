use Rattle.sched_theorem.proofs.Stretches.{began}
use Rattle.sched_theorem.proofs.in_time.busy_ticks_are_in_stretches.Goals as goal

pub returns : goal.returns
returns c = λ n cost end t tick run idle_first within busy. began n cost end t run idle_first tick within busy
