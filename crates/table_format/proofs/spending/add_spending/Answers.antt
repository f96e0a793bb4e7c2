use Rattle.std.proofs.Common.{◌∙◌, ◌≤◌, arith}
use Rattle.std.proofs.lemmas.Result.{on_ok_weaker}
use Rattle.table_format.proofs.Spent.{no_two_loops, looped_twice}
use Rattle.table_format.proofs.spending.add_spending.Goals as goal

pub returns-then-ticks-lt10023 : goal.returns-then-ticks-lt10023
returns-then-ticks-lt10023 c = on_ok_weaker c.add_loop.result (λ put. no_two_loops c.args.tail.now c.args.ticks c.args.text.now _ c.if-ticks-lt10023.true put) c.add_loop.ensures

pub returns : goal.returns
returns c =
    let many : 10023 ≤ c.args.ticks = omega (arith, c.if-ticks-lt10023.false) in
    on_ok_weaker c.add_loop-2.result
    (λ rest. looped_twice c.args.tail.now c.args.ticks c.as_bytes-count.result.now c.args.text.now _ _ _ many (c.as_bytes-count.ensures.value ∙ c.format.ensures.text) c.in_ok-add_parts.ensures c.in_ok-add_parts-2.ensures rest)
    c.add_loop-2.ensures
