use Rattle.std.proofs.Common.{◌≡◌, drop}
use Rattle.syntax_tree.specs.Placed.{placed, placed_exprs, placed_operands}
use Rattle.static_declarations.specs.Things.{named_at}
use Rattle.message_conduct.specs.Faults.{exprs_fault, operands_fault}
use Rattle.message_conduct.proofs.expr.+strays.Given as goal

abbrev pub invariant-exprs_stray-loop-e : goal.invariant-exprs_stray-loop-e
invariant-exprs_stray-loop-e l = let named = named_at (placed l.declarations) in
    exprs_fault named (placed_exprs (drop l.e-index l.list)) ≡ exprs_fault named (placed_exprs l.list)

abbrev pub invariant-operands_stray-loop-operand : goal.invariant-operands_stray-loop-operand
invariant-operands_stray-loop-operand l = let named = named_at (placed l.declarations) in
    operands_fault named (placed_operands (drop l.operand-index l.rest)) ≡ operands_fault named (placed_operands l.rest)
