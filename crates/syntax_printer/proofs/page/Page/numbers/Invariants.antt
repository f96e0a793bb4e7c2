use Rattle.std.proofs.Common.{◌≡◌, map, drop}
use Rattle.syntax_tree.specs.Placed.{placed_constant}
use Rattle.syntax_printer.specs.Canonical.{constant_words, listed, more_listed}
use Rattle.syntax_printer.specs.Pages.{puts}
use Rattle.syntax_printer.proofs.page.Page.numbers.Given as goal

abbrev pub invariant-loop-number : goal.invariant-loop-number
invariant-loop-number l = puts l.self (more_listed constant_words (map placed_constant (drop l.number-index l.more))) ≡ puts l.fn.self (listed constant_words (map placed_constant l.numbers))
