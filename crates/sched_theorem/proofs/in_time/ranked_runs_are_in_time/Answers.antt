use Rattle.sched_theorem.proofs.InTime.{in_time}
use Rattle.sched_theorem.proofs.in_time.ranked_runs_are_in_time.Goals as goal

pub returns : goal.returns
returns c = λ ts bounds end t stay are solve ranked. in_time ts bounds end t stay are solve ranked
