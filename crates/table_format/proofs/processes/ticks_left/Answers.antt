use Rattle.std.proofs.Common.{◌≤◌, length, ◌-◌, ◌∙◌, ap, arith}
use Rattle.table_format.proofs.Costs.{left_next, left_last}
use Rattle.table_format.proofs.processes.ticks_left.Goals as goal

pub loop-stay-preserved : goal.loop-stay-preserved
loop-stay-preserved c = left_next c.as_slice-stays.result.now c.loop-stay.stay-index c.stay-item.result c.loop-stay.left _ _ c.loop-stay-test.true c.stay-item.is c.loop-stay.invariant (c.saturating_sub-left-in-loop-stay.ensures ∙ ap (λ n. n - c.stay-item.result.ticks) c.saturating_sub.ensures)

pub returns : goal.returns
returns c =
    let all : length c.as_slice-stays.result.now ≤ c.loop-stay.stay-index = omega (arith, c.loop-stay-test.false) in
    left_last c.as_slice-stays.result.now c.loop-stay.stay-index c.loop-stay.left _ all c.loop-stay.invariant
