use Rattle.std.proofs.Common.{◌≡◌, ◌<◌, ◌+◌, ◌-◌, ◌*◌, ◌/◌, List, length, IsTrue, ap, subst, ◌∙◌, arith, refl}
use Rattle.sched_response.specs.declared.tasks.Task.{Task}
use Rattle.sched_sensitivity.specs.Slack.{evaluations, IsTimely}
use Rattle.sched_sensitivity.proofs.Halving.{Pass, next_pass}
use Rattle.sched_sensitivity.specs.Fit.{with_number}
use Rattle.sched_sensitivity.proofs.Judged.{greatest, past_deadline}
use Rattle.sched_sensitivity.proofs.fitting.greatest_fit.Goals as goal

pub loop-too_many-init : goal.loop-too_many-init
loop-too_many-init g c = record {
  kept = refl;
  fits = c.requires.zero;
  fails = past_deadline c.args.number c.args.set.now c.args.level (c.limit-too_many.result + 1) c.requires.level (omega (arith, c.limit-too_many.ensures.value, c.limit-too_many.ensures.high)) (omega (arith, c.limit-too_many.ensures.value));
  between = omega arith;
  below = omega (arith, c.limit-too_many.ensures.value);
  room = omega (arith, c.limit-too_many.ensures.value, c.limit-too_many.ensures.high);
  passes = (30, omega (arith, c.limit-too_many.ensures.high), omega arith);
}

pub loop-too_many-preserved-then-fits : goal.loop-too_many-preserved-then-fits
loop-too_many-preserved-then-fits g c =
    let set = c.args.set.now in
    let old = c.loop-too_many.invariant in
    let low = c.loop-too_many.most in
    let high = c.loop-too_many.too_many in
    let middle = low + (high - low) / 2 in
    let e = evaluations set (length set) in
    let wide : low + 1 < high = omega (arith, c.loop-too_many-test.true) in
    let same : evaluations c.loop-too_many.set (length c.loop-too_many.set) ≡ e = ap (λ (us : List Task). evaluations us (length us)) old.kept in
    let pass : Pass low high e c.fits.new.steps (c.args.steps.now + 30 * e) = next_pass old.passes.0 low high e c.loop-too_many.steps c.fits.new.steps (c.args.steps.now + 30 * e) wide old.passes.1 old.passes.2 (omega (arith, same, c.fits.ensures.cost)) in
    record {
      kept = c.fits.ensures.kept ∙ old.kept;
      fits = subst (λ (us : List Task). IsTimely (with_number c.args.number us c.args.level middle)) old.kept (c.fits.ensures.fits.0 c.if-fits.true);
      fails = old.fails;
      between = omega (arith, wide);
      below = old.below;
      room = old.room;
      passes = (pass.left, pass.upper, pass.cost);
    }

pub loop-too_many-preserved : goal.loop-too_many-preserved
loop-too_many-preserved g c =
    let set = c.args.set.now in
    let old = c.loop-too_many.invariant in
    let low = c.loop-too_many.most in
    let high = c.loop-too_many.too_many in
    let middle = low + (high - low) / 2 in
    let e = evaluations set (length set) in
    let wide : low + 1 < high = omega (arith, c.loop-too_many-test.true) in
    let same : evaluations c.loop-too_many.set (length c.loop-too_many.set) ≡ e = ap (λ (us : List Task). evaluations us (length us)) old.kept in
    let pass : Pass low high e c.fits.new.steps (c.args.steps.now + 30 * e) = next_pass old.passes.0 low high e c.loop-too_many.steps c.fits.new.steps (c.args.steps.now + 30 * e) wide old.passes.1 old.passes.2 (omega (arith, same, c.fits.ensures.cost)) in
    record {
      kept = c.fits.ensures.kept ∙ old.kept;
      fits = old.fits;
      fails = subst (λ (us : List Task). ¬ IsTimely (with_number c.args.number us c.args.level middle)) old.kept (λ timely. let yes : IsTrue c.fits.result = c.fits.ensures.fits.1 timely in cc);
      between = omega (arith, wide);
      below = omega (arith, old.below, wide);
      room = old.room;
      passes = (pass.left, pass.lower, pass.cost);
    }

pub returns-clause-fits : goal.returns-clause-fits
returns-clause-fits g c =
    let old = c.loop-too_many.invariant in
    greatest c.args.number c.args.set.now c.args.level c.loop-too_many.most c.loop-too_many.too_many c.requires.level (omega (arith, old.between, c.loop-too_many-test.false)) old.fits old.fails
