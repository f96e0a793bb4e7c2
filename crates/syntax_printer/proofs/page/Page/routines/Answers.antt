use Rattle.syntax_tree.specs.Placed.{placed_routine}
use Rattle.syntax_printer.specs.Canonical.{routine_lines}
use Rattle.syntax_printer.proofs.Steps.{lines_turned}
use Rattle.syntax_printer.proofs.page.Page.routines.Goals as goal

pub loop-routine-preserved : goal.loop-routine-preserved
loop-routine-preserved c =
    lines_turned routine_lines placed_routine c.args.routines.now c.loop-routine.routine-index c.routine-item.result c.loop-routine.self c.routine.new.self _ c.loop-routine-test.true c.routine-item.is
    c.loop-routine.invariant c.in_ok-routine.ensures
