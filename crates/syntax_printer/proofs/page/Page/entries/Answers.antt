use Rattle.syntax_tree.specs.Placed.{placed_routine}
use Rattle.syntax_printer.specs.Canonical.{entry_lines}
use Rattle.syntax_printer.proofs.Steps.{lines_turned}
use Rattle.syntax_printer.proofs.page.Page.entries.Goals as goal

pub loop-entry-preserved : goal.loop-entry-preserved
loop-entry-preserved c =
    lines_turned entry_lines placed_routine c.args.entries.now c.loop-entry.entry-index c.entry-item.result c.loop-entry.self c.entry_routine.new.self _ c.loop-entry-test.true c.entry-item.is
    c.loop-entry.invariant c.in_ok-entry_routine.ensures
