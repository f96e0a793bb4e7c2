use Rattle.std.proofs.Common.{◌≡◌, drop}
use Rattle.syntax_tree.specs.Placed.{placed_exprs, placed_operands, plain_exprs, plain_operands}
use Rattle.codegen_spec.specs.Told.{inside}
use Rattle.code_cost.specs.Sums.{nothing}
use Rattle.code_cost.specs.Forms.{args_size, row_size}
use Rattle.code_cost.proofs.expressions.+expr.Given as goal

abbrev pub invariant-args-loop-arg : goal.invariant-args-loop-arg
invariant-args-loop-arg g l =
    (args_size (g.L.Lookup.program l.names) (inside l.loops (g.L.Lookup.scope l.names)) l.rows l.number l.sum (plain_exprs (placed_exprs (drop l.arg-index l.args))) l.ranges
    ≡ args_size (g.L.Lookup.program l.names) (inside l.loops (g.L.Lookup.scope l.names)) l.rows 0 nothing (plain_exprs (placed_exprs l.args)) l.ranges)
    × (l.number ≡ l.arg-index)

abbrev pub invariant-operands-loop-operand : goal.invariant-operands-loop-operand
invariant-operands-loop-operand g l =
    row_size (g.L.Lookup.program l.names) (inside l.loops (g.L.Lookup.scope l.names)) l.rows l.sum (plain_operands (placed_operands (drop l.operand-index l.operands)))
    ≡ row_size (g.L.Lookup.program l.names) (inside l.loops (g.L.Lookup.scope l.names)) l.rows l.fn.first (plain_operands (placed_operands l.operands))
