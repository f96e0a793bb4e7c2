use Rattle.sched_theorem.proofs.Apart.{apart_kept}
use Rattle.sched_theorem.proofs.in_time.processes_stay_apart.Goals as goal

pub returns : goal.returns
returns c = λ n p inside inside_after apart keeps above i j s t less below is_i is_j. apart_kept n p inside inside_after apart keeps above i j s t less below is_i is_j
