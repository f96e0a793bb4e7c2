use Rattle.std.proofs.Common.{◌≡◌, List, length, IsTrue, ◌↔◌, ap, subst, ◌∙◌, arith}
use Rattle.sched_response.specs.declared.tasks.Task.{Task}
use Rattle.sched_sensitivity.specs.Slack.{evaluations, IsTimely}
use Rattle.sched_sensitivity.proofs.Overheads.{evaluations_stay}
use Rattle.sched_sensitivity.proofs.Judged.{judged}
use Rattle.sched_sensitivity.proofs.overhead.overhead_fits.Goals as goal

pub returns-clause-fits : goal.returns-clause-fits
returns-clause-fits g c =
    subst (λ (us : List Task). IsTrue c.is_none.result ↔ IsTimely us) c.in_ok-set.ensures
    (judged c.in_ok-set.set c.first_failing-fails.result c.is_none.result c.is_none.ensures c.first_failing-fails.ensures.none c.first_failing-fails.ensures.some)

pub returns-clause-cost : goal.returns-clause-cost
returns-clause-cost g c =
    let same : evaluations c.in_ok-set.set (length c.in_ok-set.set) ≡ evaluations c.args.tasks.now (length c.args.tasks.now) =
    ap (λ (us : List Task). evaluations us (length us)) c.in_ok-set.ensures ∙ evaluations_stay c.args.tasks.now c.args.over c.requires.tasks in
    omega (arith, same, c.first_failing-fails.ensures.cost)
