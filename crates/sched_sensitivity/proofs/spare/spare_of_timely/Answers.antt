use Rattle.std.proofs.Common.{◌≡◌, ◌+◌, ◌≤◌, ◌∙◌, ℕ, List, ap, subst, sym, arith}
use Rattle.sched_response.specs.declared.tasks.Task.{Task}
use Rattle.sched_sensitivity.specs.Slack.{evaluations, with_more, IsFirstFailing, IsSpareFrom, IsTimely}
use Rattle.sched_sensitivity.proofs.More.{is_spare}
use Rattle.sched_sensitivity.proofs.spare.spare_of_timely.Goals as goal

pub first_with_more-fails-requires-clause-from : goal.first_with_more-fails-requires-clause-from
first_with_more-fails-requires-clause-from g c =
    subst (λ (us : List Task). IsSpareFrom us c.args.level c.args.level c.least_extra-least.result) (sym c.least_extra-least.ensures.kept) c.least_extra-least.ensures.from

pub first_with_more-fails-requires-clause-timely : goal.first_with_more-fails-requires-clause-timely
first_with_more-fails-requires-clause-timely g c = subst (λ (us : List Task). IsTimely us) (sym c.least_extra-least.ensures.kept) c.requires.timely

pub returns-clause-spare : goal.returns-clause-spare
returns-clause-spare g c =
    is_spare c.args.set.now c.args.level c.first_with_more-fails.result c.least_extra-least.result c.requires.level c.requires.timely c.least_extra-least.ensures.from
    (subst (λ (us : List Task). IsFirstFailing (with_more us c.args.level (c.least_extra-least.result.extra + 1)) c.first_with_more-fails.result) c.least_extra-least.ensures.kept c.first_with_more-fails.ensures.first)

pub returns-clause-cost : goal.returns-clause-cost
returns-clause-cost g c =
    let fails = c.least_extra-least.result.fails in
    let same : evaluations c.least_extra-least.new.set fails ≡ evaluations c.args.set.now fails = ap (λ (us : List Task). evaluations us fails) c.least_extra-least.ensures.kept in
    omega (arith, same, c.least_extra-least.ensures.cost, c.first_with_more-fails.ensures.cost)
