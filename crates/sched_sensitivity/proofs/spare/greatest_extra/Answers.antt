use Rattle.std.proofs.Common.{◌≡◌, ◌≤◌, ◌<◌, ◌+◌, ◌-◌, ◌*◌, ◌/◌, ℕ, List, ap, subst, ◌∙◌, arith, refl}
use Rattle.sched_response.specs.declared.tasks.Task.{Task}
use Rattle.sched_sensitivity.specs.Slack.{evaluations_at, with_more, Responds}
use Rattle.sched_sensitivity.proofs.Halving.{Pass, next_pass}
use Rattle.sched_sensitivity.proofs.More.{some_between}
use Rattle.sched_sensitivity.proofs.spare.greatest_extra.Goals as goal

pub loop-too_many-init : goal.loop-too_many-init
loop-too_many-init g c = record {
  kept = refl;
  fits = c.requires.fits;
  fails = c.requires.fails;
  between = some_between c.args.set.now c.args.level c.args.other c.args.failing c.requires.fits c.requires.fails;
  below = omega arith;
  room = c.requires.room;
  passes = (30, omega (arith, c.requires.room), omega arith);
}

pub loop-too_many-preserved-in-None : goal.loop-too_many-preserved-in-None
loop-too_many-preserved-in-None g c =
    let set = c.args.set.now in
    let level = c.args.level in
    let other = c.args.other in
    let old = c.loop-too_many.invariant in
    let low = c.loop-too_many.extra in
    let high = c.loop-too_many.too_many in
    let middle = low + (high - low) / 2 in
    let e = evaluations_at set other in
    let wide : low + 1 < high = omega (arith, c.loop-too_many-test.true) in
    let same : evaluations_at c.loop-too_many.set other ≡ e = ap (λ (us : List Task). evaluations_at us other) old.kept in
    let pass : Pass low high e c.bound_with.new.steps (c.args.steps.now + 30 * e) = next_pass old.passes.0 low high e c.loop-too_many.steps c.bound_with.new.steps (c.args.steps.now + 30 * e) wide old.passes.1 old.passes.2 (omega (arith, same, c.bound_with.ensures.cost)) in
    record {
      kept = c.bound_with.ensures.kept ∙ old.kept;
      fits = old.fits;
      fails = subst (λ (us : List Task). ¬ Responds (with_more us level middle) other) old.kept c.in-None.ensures.none;
      between = omega (arith, wide);
      below = omega (arith, old.below, wide);
      room = omega (arith, old.room, wide);
      passes = (pass.left, pass.lower, pass.cost);
    }

pub loop-too_many-preserved : goal.loop-too_many-preserved
loop-too_many-preserved g c =
    let set = c.args.set.now in
    let level = c.args.level in
    let other = c.args.other in
    let old = c.loop-too_many.invariant in
    let low = c.loop-too_many.extra in
    let high = c.loop-too_many.too_many in
    let middle = low + (high - low) / 2 in
    let e = evaluations_at set other in
    let wide : low + 1 < high = omega (arith, c.loop-too_many-test.true) in
    let same : evaluations_at c.loop-too_many.set other ≡ e = ap (λ (us : List Task). evaluations_at us other) old.kept in
    let pass : Pass low high e c.bound_with.new.steps (c.args.steps.now + 30 * e) = next_pass old.passes.0 low high e c.loop-too_many.steps c.bound_with.new.steps (c.args.steps.now + 30 * e) wide old.passes.1 old.passes.2 (omega (arith, same, c.bound_with.ensures.cost)) in
    record {
      kept = c.bound_with.ensures.kept ∙ old.kept;
      fits = subst (λ (us : List Task). Responds (with_more us level middle) other) old.kept (c.in-Some._bound, c.in-Some.ensures.some.solves);
      fails = old.fails;
      between = omega (arith, wide);
      below = old.below;
      room = old.room;
      passes = (pass.left, pass.upper, pass.cost);
    }

pub returns-clause-fails : goal.returns-clause-fails
returns-clause-fails g c =
    let old = c.loop-too_many.invariant in
    let one : c.loop-too_many.too_many ≡ c.loop-too_many.extra + 1 = omega (arith, old.between, c.loop-too_many-test.false) in
    subst (λ (x : ℕ). ¬ Responds (with_more c.args.set.now c.args.level x) c.args.other) one old.fails

pub returns-clause-cost : goal.returns-clause-cost
returns-clause-cost g c = omega (arith, c.loop-too_many.invariant.passes.2)
