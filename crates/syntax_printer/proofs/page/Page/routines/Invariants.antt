use Rattle.std.proofs.Common.{◌≡◌, map, drop}
use Rattle.syntax_tree.specs.Placed.{placed_routine}
use Rattle.syntax_printer.specs.Canonical.{routine_lines, lines_of}
use Rattle.syntax_printer.specs.Pages.{put_lines}
use Rattle.syntax_printer.proofs.page.Page.routines.Given as goal

abbrev pub invariant-loop-routine : goal.invariant-loop-routine
invariant-loop-routine l = put_lines l.self (lines_of routine_lines (map placed_routine (drop l.routine-index l.routines))) ≡ put_lines l.fn.self (lines_of routine_lines (map placed_routine l.routines))
