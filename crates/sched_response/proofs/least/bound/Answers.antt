use Rattle.std.proofs.Common.{◌≤◌, ◌+◌, take, arith}
use Rattle.sched_response.specs.Demand.{AreTasks, starts_in}
use Rattle.sched_response.proofs.Rising.{demand_mono, demand_rises, starts_mono, starts_level}
use Rattle.sched_response.proofs.least.bound.Goals as goal

pub returns-then-asked-limit-clause-none : goal.returns-then-asked-limit-clause-none
returns-then-asked-limit-clause-none g c = λ other s.
    let up = demand_mono c.args.set.now c.args.level c.loop-response.response other c.limit-limit.ensures.tasks (c.loop-response.invariant.least other s) in
    omega (arith, up, s.met, s.within, c.loop-response.invariant.found, c.limit-limit.ensures.value, c.if-asked-limit.true)

pub returns-then-asked-limit-clause-cost : goal.returns-then-asked-limit-clause-cost
returns-then-asked-limit-clause-cost g c =
    let up = starts_mono c.args.set.now c.args.level c.loop-response.response c.limit-limit.result c.limit-limit.ensures.tasks c.loop-response.invariant.within in
    let level = starts_level c.args.set.now c.args.level c.limit-limit.result c.requires in
    rw (← c.limit-limit.ensures.value) (omega (arith, up, level, c.loop-response.invariant.over))

pub returns-clause-cost : goal.returns-clause-cost
returns-clause-cost g c =
    let up = starts_mono c.args.set.now c.args.level c.loop-response.response c.limit-limit.result c.limit-limit.ensures.tasks c.loop-response.invariant.within in
    let level = starts_level c.args.set.now c.args.level c.limit-limit.result c.requires in
    rw (← c.limit-limit.ensures.value) (omega (arith, up, level, c.loop-response.invariant.over))

pub loop-response-preserved : goal.loop-response-preserved
loop-response-preserved g c =
    let old = c.loop-response.invariant in
    let tasks : AreTasks c.args.set.now = c.limit-limit.ensures.tasks in
    let further : c.loop-response.response ≤ c.loop-response.asked = omega (arith, c.loop-response-test.true) in
    let count : c.loop-response.steps ≤ c.args.steps.now + (1 + starts_in c.loop-response.response (take c.args.level c.args.set.now)) = old.going c.loop-response-test.true in
    let up = starts_mono c.args.set.now c.args.level c.loop-response.response c.loop-response.asked tasks further in
    record {
      found = c.demand-asked-in-loop-response.ensures.value;
      above = omega (arith, old.above, further);
      within = omega (arith, c.if-asked-limit.false);
      least = λ other s.
          let low = demand_mono c.args.set.now c.args.level c.loop-response.response other tasks (old.least other s) in
          omega (arith, low, s.met, old.found);
      going = λ more.
          let rise = demand_rises c.args.set.now c.args.level c.loop-response.response c.loop-response.asked tasks further (omega (arith, more, old.found, c.demand-asked-in-loop-response.ensures.value)) in
          omega (arith, count, rise, c.demand-asked-in-loop-response.ensures.cost);
      over = omega (arith, count, up, c.demand-asked-in-loop-response.ensures.cost);
    }
