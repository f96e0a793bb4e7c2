use Rattle.syntax_tree.specs.Placed.{placed_param}
use Rattle.syntax_printer.specs.Canonical.{param_words}
use Rattle.syntax_printer.proofs.Steps.{listed_turned}
use Rattle.syntax_printer.proofs.page.Page.params.Goals as goal

pub loop-param-preserved : goal.loop-param-preserved
loop-param-preserved c =
    listed_turned param_words placed_param c.in-Some.more.now c.loop-param.param-index c.param-item.result c.loop-param.self c.sign.new.self c.param-in-loop-param.new.self _
    c.loop-param-test.true c.param-item.is c.loop-param.invariant c.in_ok-sign.ensures c.in_ok-param-2.ensures
