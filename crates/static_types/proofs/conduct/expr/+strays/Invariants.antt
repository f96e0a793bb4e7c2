use Rattle.std.proofs.Common.{◌≡◌, drop}
use Rattle.syntax_tree.specs.Placed.{placed, placed_exprs, placed_operands}
use Rattle.static_declarations.specs.Things.{named_at}
use Rattle.static_types.specs.Conduct.{exprs_stray, operands_stray}
use Rattle.static_types.proofs.conduct.expr.+strays.Given as goal

abbrev pub invariant-exprs_stray-loop-e : goal.invariant-exprs_stray-loop-e
invariant-exprs_stray-loop-e l = let named = named_at (placed l.declarations) in
    exprs_stray named (placed_exprs (drop l.e-index l.list)) ≡ exprs_stray named (placed_exprs l.list)

abbrev pub invariant-operands_stray-loop-operand : goal.invariant-operands_stray-loop-operand
invariant-operands_stray-loop-operand l = let named = named_at (placed l.declarations) in
    operands_stray named (placed_operands (drop l.operand-index l.rest)) ≡ operands_stray named (placed_operands l.rest)
