use Rattle.std.proofs.Common.{◌≡◌, map, drop}
use Rattle.syntax_tree.specs.Placed.{placed_routine}
use Rattle.syntax_printer.specs.Canonical.{entry_lines, lines_of}
use Rattle.syntax_printer.specs.Pages.{put_lines}
use Rattle.syntax_printer.proofs.page.Page.entries.Given as goal

abbrev pub invariant-loop-entry : goal.invariant-loop-entry
invariant-loop-entry l = put_lines l.self (lines_of entry_lines (map placed_routine (drop l.entry-index l.entries))) ≡ put_lines l.fn.self (lines_of entry_lines (map placed_routine l.entries))
