use Rattle.std.proofs.Common.{◌≡◌, map, drop}
use Rattle.syntax_tree.specs.Placed.{placed_var}
use Rattle.syntax_printer.specs.Canonical.{var_lines, lines_of}
use Rattle.syntax_printer.specs.Pages.{put_lines}
use Rattle.syntax_printer.proofs.page.Page.vars.Given as goal

abbrev pub invariant-loop-var : goal.invariant-loop-var
invariant-loop-var l = put_lines l.self (lines_of var_lines (map placed_var (drop l.var-index l.vars))) ≡ put_lines l.fn.self (lines_of var_lines (map placed_var l.vars))
