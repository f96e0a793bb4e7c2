use Rattle.std.proofs.Common.{◌≡◌, drop}
use Rattle.syntax_tree.specs.Placed.{placed_stmts}
use Rattle.syntax_printer.specs.Canonical.{stmts_lines}
use Rattle.syntax_printer.specs.Pages.{put_lines}
use Rattle.syntax_printer.proofs.page.Page.+stmt.Given as goal

abbrev pub invariant-stmts-loop-stmt : goal.invariant-stmts-loop-stmt
invariant-stmts-loop-stmt l = put_lines l.self (stmts_lines (placed_stmts (drop l.stmt-index l.stmts))) ≡ put_lines l.fn.self (stmts_lines (placed_stmts l.stmts))
