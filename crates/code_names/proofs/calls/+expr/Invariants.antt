use Rattle.std.proofs.Common.{◌≡◌, ◌++◌, List, drop}
use Rattle.syntax_tree.specs.Placed.{placed_exprs, placed_operands, plain_exprs, plain_operands}
use Rattle.code_spec.specs.Numbering.{Called}
use Rattle.code_names.specs.Calls.{calls_told, exprs_called, row_called}
use Rattle.code_names.proofs.calls.+expr.Given as goal

abbrev pub invariant-exprs-loop-e : goal.invariant-exprs-loop-e
invariant-exprs-loop-e l = (more : List Called) → calls_told l.calls.items ++ exprs_called (plain_exprs (placed_exprs (drop l.e-index l.list))) more ≡ calls_told l.fn.calls.items ++ exprs_called (plain_exprs (placed_exprs l.list)) more

abbrev pub invariant-operands-loop-operand : goal.invariant-operands-loop-operand
invariant-operands-loop-operand l = (more : List Called) → calls_told l.calls.items ++ row_called (plain_operands (placed_operands (drop l.operand-index l.list))) more ≡ calls_told l.fn.calls.items ++ row_called (plain_operands (placed_operands l.list)) more
