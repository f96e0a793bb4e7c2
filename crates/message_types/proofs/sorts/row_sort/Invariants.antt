use Rattle.std.proofs.Common.{◌≡◌, drop}
use Rattle.syntax_tree.specs.Placed.{placed_operands}
use Rattle.static_types.specs.Sorts.{row_sort}
use Rattle.message_types.proofs.sorts.row_sort.Given as goal

abbrev pub invariant-loop-operand : goal.invariant-loop-operand
invariant-loop-operand l = row_sort l.sort (placed_operands (drop l.operand-index l.rest)) ≡ row_sort l.fn.first (placed_operands l.rest)
