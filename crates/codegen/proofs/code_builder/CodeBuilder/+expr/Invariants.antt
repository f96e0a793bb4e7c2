use Rattle.std.proofs.Common.{◌≡◌, drop, length}
use Rattle.syntax_tree.specs.Placed.{placed_exprs, placed_operands, plain_exprs, plain_operands}
use Rattle.codegen_spec.specs.Told.{inside}
use Rattle.codegen_spec.specs.Made.{args_out, row_out}
use Rattle.codegen.proofs.code_builder.CodeBuilder.+expr.Given as goal

abbrev pub invariant-args-loop-arg : goal.invariant-args-loop-arg
invariant-args-loop-arg g l =
    args_out (g.L.Lookup.program l.names) (inside l.loops (g.L.Lookup.scope l.names)) (plain_exprs (placed_exprs (drop (length l.yielded) l.args))) (drop (length l.yielded) l.ranges) l.self
    ≡ args_out (g.L.Lookup.program l.names) (inside l.loops (g.L.Lookup.scope l.names)) (plain_exprs (placed_exprs l.args)) l.ranges l.fn.self

abbrev pub invariant-operands-loop-operand : goal.invariant-operands-loop-operand
invariant-operands-loop-operand g l =
    row_out (g.L.Lookup.program l.names) (inside l.loops (g.L.Lookup.scope l.names)) (plain_operands (placed_operands (drop l.operand-index l.operands))) l.self
    ≡ row_out (g.L.Lookup.program l.names) (inside l.loops (g.L.Lookup.scope l.names)) (plain_operands (placed_operands l.operands)) l.fn.self
