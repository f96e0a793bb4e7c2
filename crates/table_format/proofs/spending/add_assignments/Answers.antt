use Rattle.std.proofs.lemmas.Result.{on_ok_weaker}
use Rattle.table_format.proofs.Spent.{assigned_one, assigned_two, assigned_none}
use Rattle.table_format.proofs.spending.add_assignments.Goals as goal

pub returns-then-ticks-eq1 : goal.returns-then-ticks-eq1
returns-then-ticks-eq1 c =
    on_ok_weaker c.add_threes.result (λ rest. assigned_one c.args.tail.now c.args.ticks c.saturating_sub.result c.args.text.now _ _ c.if-ticks-eq1.true c.saturating_sub.ensures c.in_ok-add_parts.ensures rest) c.add_threes.ensures

pub returns-then-ticks-eq2 : goal.returns-then-ticks-eq2
returns-then-ticks-eq2 c =
    on_ok_weaker c.add_threes-then-ticks-eq2.result
    (λ rest. assigned_two c.args.tail.now c.args.ticks c.saturating_sub-then-ticks-eq2.result c.args.text.now _ _ c.if-ticks-eq2.true c.saturating_sub-then-ticks-eq2.ensures c.in_ok-add_parts-2.ensures rest)
    c.add_threes-then-ticks-eq2.ensures

pub returns : goal.returns
returns c =
    on_ok_weaker c.add_threes-2.result (λ put. assigned_none c.args.tail.now c.args.ticks c.args.text.now _ c.if-ticks-eq1.false c.if-ticks-eq2.false put) c.add_threes-2.ensures
