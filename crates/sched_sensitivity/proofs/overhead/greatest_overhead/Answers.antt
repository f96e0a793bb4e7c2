use Rattle.std.proofs.Common.{◌∙◌, sym, ◌<◌, ◌+◌, ◌-◌, ◌*◌, ◌/◌, length, IsTrue, arith}
use Rattle.std.proofs.lemmas.Bool.{false≢true}
use Rattle.sched_sensitivity.specs.Slack.{evaluations}
use Rattle.sched_sensitivity.proofs.Halving.{Pass, next_pass}
use Rattle.sched_sensitivity.proofs.Overheads.{falls, greatest}
use Rattle.sched_sensitivity.proofs.overhead.greatest_overhead.Goals as goal

pub loop-too_many-init : goal.loop-too_many-init
loop-too_many-init g c = record {
  fits = c.requires.zero;
  fails = λ y low high timely. absurd (omega (arith, low, high));
  between = omega arith;
  below = omega arith;
  passes = (10, omega arith, omega arith);
}

pub returns-in_err-overhead_fits-clause-cost : goal.returns-in_err-overhead_fits-clause-cost
returns-in_err-overhead_fits-clause-cost g c =
    let old = c.loop-too_many.invariant in
    let low = c.loop-too_many.most in
    let high = c.loop-too_many.too_many in
    let e = evaluations c.args.tasks.now (length c.args.tasks.now) in
    let wide : low + 1 < high = omega (arith, c.loop-too_many-test.true) in
    let pass : Pass low high e c.overhead_fits.new.steps (c.args.steps.now + 10 * e) = next_pass old.passes.0 low high e c.loop-too_many.steps c.overhead_fits.new.steps (c.args.steps.now + 10 * e) wide old.passes.1 old.passes.2 c.overhead_fits.ensures.cost in
    omega (arith, pass.cost)

pub loop-too_many-preserved-then-branch : goal.loop-too_many-preserved-then-branch
loop-too_many-preserved-then-branch g c =
    let old = c.loop-too_many.invariant in
    let low = c.loop-too_many.most in
    let high = c.loop-too_many.too_many in
    let e = evaluations c.args.tasks.now (length c.args.tasks.now) in
    let wide : low + 1 < high = omega (arith, c.loop-too_many-test.true) in
    let pass : Pass low high e c.overhead_fits.new.steps (c.args.steps.now + 10 * e) = next_pass old.passes.0 low high e c.loop-too_many.steps c.overhead_fits.new.steps (c.args.steps.now + 10 * e) wide old.passes.1 old.passes.2 c.overhead_fits.ensures.cost in
    record {
      fits = c.in_ok-overhead_fits.ensures.fits.0 c.if-branch.true;
      fails = old.fails;
      between = omega (arith, wide);
      below = old.below;
      passes = (pass.left, pass.upper, pass.cost);
    }

pub loop-too_many-preserved : goal.loop-too_many-preserved
loop-too_many-preserved g c =
    let old = c.loop-too_many.invariant in
    let low = c.loop-too_many.most in
    let high = c.loop-too_many.too_many in
    let middle = low + (high - low) / 2 in
    let e = evaluations c.args.tasks.now (length c.args.tasks.now) in
    let wide : low + 1 < high = omega (arith, c.loop-too_many-test.true) in
    let pass : Pass low high e c.overhead_fits.new.steps (c.args.steps.now + 10 * e) = next_pass old.passes.0 low high e c.loop-too_many.steps c.overhead_fits.new.steps (c.args.steps.now + 10 * e) wide old.passes.1 old.passes.2 c.overhead_fits.ensures.cost in
    record {
      fits = old.fits;
      fails = λ y above most timely.
          let yes : IsTrue c.in_ok-overhead_fits.field-0 = c.in_ok-overhead_fits.ensures.fits.1 (falls c.args.tasks.now middle y above timely) in
          false≢true (sym c.if-branch.false ∙ yes);
      between = omega (arith, wide);
      below = omega (arith, old.below, wide);
      passes = (pass.left, pass.lower, pass.cost);
    }

pub returns-clause-fits : goal.returns-clause-fits
returns-clause-fits g c =
    let old = c.loop-too_many.invariant in
    greatest c.args.tasks.now c.loop-too_many.most c.loop-too_many.too_many (omega (arith, old.between, c.loop-too_many-test.false)) old.below old.fits old.fails
