use Rattle.std.proofs.Common.{◌≡◌, ◌+◌, ◌*◌, ◌≤◌, ◌∙◌, inl, inr, ℕ, List, ap, subst, sym, refl, arith}
use Rattle.sched_response.specs.declared.tasks.Task.{Task}
use Rattle.sched_sensitivity.specs.Slack.{evaluations_at, with_more, Responds}
use Rattle.sched_sensitivity.proofs.More.{responds_as_it_is, spare_falls, spare_stays}
use Rattle.sched_sensitivity.proofs.spare.lessened.Goals as goal

pub greatest_extra-requires-clause-fits : goal.greatest_extra-requires-clause-fits
greatest_extra-requires-clause-fits g c =
    subst (λ (us : List Task). Responds (with_more us c.args.level 0) c.args.other) (sym c.bound_with.ensures.kept)
    (responds_as_it_is c.args.set.now c.args.level c.args.other c.requires.other c.requires.timely)

pub greatest_extra-requires-clause-fails : goal.greatest_extra-requires-clause-fails
greatest_extra-requires-clause-fails g c =
    subst (λ (us : List Task). ¬ Responds (with_more us c.args.level c.args.least.extra) c.args.other) (sym c.bound_with.ensures.kept) c.in-None.ensures.none

pub returns-in-Some-clause-from : goal.returns-in-Some-clause-from
returns-in-Some-clause-from g c = spare_stays c.args.set.now c.args.level c.args.other c.args.least c.requires.after (c.in-Some._bound, c.in-Some.ensures.some.solves)

pub returns-in-Some-clause-cost : goal.returns-in-Some-clause-cost
returns-in-Some-clause-cost g c = inl (refl, c.bound_with.ensures.cost)

pub returns-in-None-clause-from : goal.returns-in-None-clause-from
returns-in-None-clause-from g c =
    let set = c.args.set.now in
    let kept = c.bound_with.ensures.kept in
    let x = c.greatest_extra.result in
    spare_falls set c.args.level c.args.other x c.args.least c.requires.level c.requires.other c.requires.after (omega (arith, c.greatest_extra.ensures.below))
    (subst (λ (us : List Task). Responds (with_more us c.args.level x) c.args.other) kept c.greatest_extra.ensures.fits)
    (subst (λ (us : List Task). ¬ Responds (with_more us c.args.level (x + 1)) c.args.other) kept c.greatest_extra.ensures.fails)

pub returns-in-None-clause-cost : goal.returns-in-None-clause-cost
returns-in-None-clause-cost g c =
    let same : evaluations_at c.bound_with.new.set c.args.other ≡ evaluations_at c.args.set.now c.args.other = ap (λ (us : List Task). evaluations_at us c.args.other) c.bound_with.ensures.kept in
    inr (refl, omega (arith, same, c.bound_with.ensures.cost, c.greatest_extra.ensures.cost))
