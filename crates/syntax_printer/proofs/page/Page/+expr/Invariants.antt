use Rattle.std.proofs.Common.{◌≡◌, [], ◌∷◌, ◌++◌, drop}
use Rattle.syntax.specs.Words.{RIGHT_PAREN}
use Rattle.syntax_tree.specs.Placed.{placed_exprs, placed_operands}
use Rattle.syntax_printer.specs.Canonical.{operands_words, more_args_words, in_parens}
use Rattle.syntax_printer.specs.Pages.{puts}
use Rattle.syntax_printer.proofs.page.Page.+expr.Given as goal

abbrev pub invariant-args-loop-arg : goal.invariant-args-loop-arg
invariant-args-loop-arg l = puts l.self (more_args_words (placed_exprs (drop l.arg-index l.more)) ++ RIGHT_PAREN ∷ []) ≡ puts l.fn.self (in_parens (placed_exprs l.args))

abbrev pub invariant-operands-loop-operand : goal.invariant-operands-loop-operand
invariant-operands-loop-operand l =
    puts l.self (operands_words (placed_operands (drop l.operand-index l.operands))) ≡ puts l.fn.self (operands_words (placed_operands l.operands))
