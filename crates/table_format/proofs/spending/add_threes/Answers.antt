use Rattle.std.proofs.Common.{◌≡◌, ◌-◌, ◌++◌, ap, sym, ◌∙◌, append-nil, arith}
use Rattle.table_format.specs.Spending.{threes}
use Rattle.table_format.specs.Parts.{statements_text}
use Rattle.table_format.proofs.Texts.{three_more, statements_none}
use Rattle.table_format.proofs.spending.add_threes.Goals as goal

pub loop-preserved : goal.loop-preserved
loop-preserved c = three_more c.args.tail.now c.args.count c.loop.counter c.loop.text c.add_parts.new.text c.loop-test.true c.in_ok-add_parts.ensures ∙ c.loop.invariant

pub returns : goal.returns
returns c =
    let none : c.args.count - c.loop.counter ≡ 0 = omega (arith, c.loop-test.false) in
    sym (append-nil c.loop.text) ∙ sym (ap (λ t. c.loop.text ++ t) statements_none) ∙ sym (ap (λ k. c.loop.text ++ statements_text (threes c.args.tail.now k)) none) ∙ c.loop.invariant
