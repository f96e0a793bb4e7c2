use Rattle.std.proofs.Common.{◌∙◌, ◌≤◌, arith}
use Rattle.std.proofs.lemmas.Result.{on_ok_weaker}
use Rattle.table_format.proofs.Spent.{no_loop, looped}
use Rattle.table_format.proofs.spending.add_loop.Goals as goal

pub returns-then-ticks-lt18 : goal.returns-then-ticks-lt18
returns-then-ticks-lt18 c = on_ok_weaker c.add_assignments.result (λ put. no_loop c.args.tail.now c.args.ticks c.args.text.now _ c.if-ticks-lt18.true put) c.add_assignments.ensures

pub returns : goal.returns
returns c =
    let many : 18 ≤ c.args.ticks = omega (arith, c.if-ticks-lt18.false) in
    on_ok_weaker c.add_assignments-2.result
    (λ rest. looped c.args.tail.now c.args.ticks c.as_bytes-count.result.now c.args.text.now _ _ many (c.as_bytes-count.ensures.value ∙ c.format.ensures.text) c.in_ok-add_parts.ensures rest) c.add_assignments-2.ensures
