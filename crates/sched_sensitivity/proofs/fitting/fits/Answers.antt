use Rattle.std.proofs.Common.{◌≡◌, List, length, IsTrue, ◌↔◌, ap, subst, ◌∙◌, arith}
use Rattle.sched_response.specs.declared.tasks.Task.{Task}
use Rattle.sched_sensitivity.specs.Slack.{evaluations, IsTimely}
use Rattle.sched_sensitivity.specs.Fit.{with_number}
use Rattle.sched_sensitivity.proofs.Changed.{evaluations_stay, put_back}
use Rattle.sched_sensitivity.proofs.Judged.{judged}
use Rattle.sched_sensitivity.proofs.fitting.fits.Goals as goal

pub returns-clause-kept : goal.returns-clause-kept
returns-clause-kept g c =
    c.set_number-2.ensures
    ∙ ap (λ (us : List Task). with_number c.args.number us c.args.level c.number_of-before.result) c.set_number.ensures
    ∙ ap (λ n. with_number c.args.number (with_number c.args.number c.args.set.now c.args.level c.args.ticks) c.args.level n) c.number_of-before.ensures.value
    ∙ put_back c.args.number c.args.set.now c.args.level c.args.ticks c.requires.level

pub returns-clause-fits : goal.returns-clause-fits
returns-clause-fits g c =
    subst (λ (us : List Task). IsTrue c.is_none.result ↔ IsTimely us) c.set_number.ensures
    (judged c.set_number.new.set c.first_failing-fails.result c.is_none.result c.is_none.ensures c.first_failing-fails.ensures.none c.first_failing-fails.ensures.some)

pub returns-clause-cost : goal.returns-clause-cost
returns-clause-cost g c =
    let same : evaluations c.set_number.new.set (length c.set_number.new.set) ≡ evaluations c.args.set.now (length c.args.set.now) =
    ap (λ (us : List Task). evaluations us (length us)) c.set_number.ensures ∙ evaluations_stay c.args.number c.args.set.now c.args.level c.args.ticks c.requires.level in
    omega (arith, same, c.first_failing-fails.ensures.cost)
