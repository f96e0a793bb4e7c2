use Rattle.syntax_tree.specs.Placed.{placed_constant}
use Rattle.syntax_printer.specs.Canonical.{constant_words}
use Rattle.syntax_printer.proofs.Steps.{listed_turned}
use Rattle.syntax_printer.proofs.page.Page.numbers.Goals as goal

pub loop-number-preserved : goal.loop-number-preserved
loop-number-preserved c =
    listed_turned constant_words placed_constant c.in-Some.more.now c.loop-number.number-index c.number-item.result c.loop-number.self c.sign.new.self c.constant-in-loop-number.new.self _
    c.loop-number-test.true c.number-item.is c.loop-number.invariant c.in_ok-sign.ensures c.in_ok-constant-2.ensures
