use Rattle.sched_theorem.proofs.Ceilings.{stay_at, is_ranked}
use Rattle.sched_theorem.proofs.InTime.{in_time}
use Rattle.sched_theorem.proofs.in_time.dispatched_runs_are_in_time.Goals as goal

pub returns : goal.returns
returns c = λ ts bounds end t d are solve run. in_time ts bounds end t (λ level k. stay_at ts (d.inside k) level) are solve (is_ranked ts end t d run)
