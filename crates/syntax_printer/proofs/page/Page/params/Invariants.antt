use Rattle.std.proofs.Common.{◌≡◌, map, drop}
use Rattle.syntax_tree.specs.Placed.{placed_param}
use Rattle.syntax_printer.specs.Canonical.{param_words, listed, more_listed}
use Rattle.syntax_printer.specs.Pages.{puts}
use Rattle.syntax_printer.proofs.page.Page.params.Given as goal

abbrev pub invariant-loop-param : goal.invariant-loop-param
invariant-loop-param l = puts l.self (more_listed param_words (map placed_param (drop l.param-index l.more))) ≡ puts l.fn.self (listed param_words (map placed_param l.params))
