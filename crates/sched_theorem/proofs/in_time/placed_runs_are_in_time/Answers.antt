use Rattle.sched_theorem.proofs.Places.{in_time_at}
use Rattle.sched_theorem.proofs.in_time.placed_runs_are_in_time.Goals as goal

pub returns : goal.returns
returns c = λ ts rank place bounds end t d tasks solve are placed. in_time_at ts rank place bounds end t d tasks solve are placed
