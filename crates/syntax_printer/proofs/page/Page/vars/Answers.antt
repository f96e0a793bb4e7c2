use Rattle.syntax_tree.specs.Placed.{placed_var}
use Rattle.syntax_printer.specs.Canonical.{var_lines}
use Rattle.syntax_printer.proofs.Steps.{lines_turned}
use Rattle.syntax_printer.proofs.page.Page.vars.Goals as goal

pub loop-var-preserved : goal.loop-var-preserved
loop-var-preserved c =
    lines_turned var_lines placed_var c.args.vars.now c.loop-var.var-index c.var-item.result c.loop-var.self c.var.new.self _ c.loop-var-test.true c.var-item.is
    c.loop-var.invariant c.in_ok-var.ensures
