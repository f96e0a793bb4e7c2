use Rattle.std.proofs.Common.{◌≤◌, ◌+◌, arith, ap}
use Rattle.sched_demand.proofs.Rising.{none_up, reach_above, points_mono}
use Rattle.sched_demand.proofs.reaching.find_span.Goals.{then-asked-lt1000000000, else-asked-lt1000000000}
use Rattle.sched_demand.proofs.reaching.find_span.Goals as goal

pub loop-points-preserved : goal.loop-points-preserved
loop-points-preserved c =
    let old = c.loop-points.invariant in
    let within : c.if-asked-lt1000000000.reach ≤ 1000000000 = elim c.if-asked-lt1000000000.branch [
      | then-asked-lt1000000000 w ↦ omega (arith, w.reach-is, w.if-asked-lt1000000000)
      | else-asked-lt1000000000 w ↦ omega (arith, w.reach-is)
    ] in
    let low : c.if-asked-lt1000000000.reach ≤ c.loop-points.asked = elim c.if-asked-lt1000000000.branch [
      | then-asked-lt1000000000 w ↦ omega (arith, w.reach-is)
      | else-asked-lt1000000000 w ↦ omega (arith, w.reach-is, w.if-asked-lt1000000000)
    ] in
    let above : 1 ≤ c.if-asked-lt1000000000.reach = elim c.if-asked-lt1000000000.branch [
      | then-asked-lt1000000000 w ↦ omega (arith, w.reach-is, c.if-asked-reach.false, old.above)
      | else-asked-lt1000000000 w ↦ omega (arith, w.reach-is)
    ] in
    record {
      above = above;
      within = within;
      asked_is = ap (λ n. c.most_block-block.result + n) c.asked_in-in-loop-points.ensures.value;
      count = c.count-points-in-loop-points.ensures;
      none_covers = none_up c.args.tasks.now c.most_block-block.result c.loop-points.reach c.if-asked-lt1000000000.reach c.requires c.most_block-block.ensures.most old.none_covers (omega (arith, low, old.asked_is));
    }

pub returns-clause-none : goal.returns-clause-none
returns-clause-none c = λ reach is.
    let old = c.loop-points.invariant in
    let up = points_mono c.args.tasks.now c.loop-points.reach reach c.requires (reach_above c.args.tasks.now c.loop-points.reach reach old.within old.none_covers is) in
    omega (arith, old.count, c.loop-points-test.false)
