use Rattle.std.proofs.Common.{◌≡◌, ◌+◌, Some, map, drop}
use Rattle.syntax_tree.specs.Placed.{placed, placed_exprs, placed_operands, placed_param}
use Rattle.static_declarations.specs.Things.{named_at}
use Rattle.message_types.specs.Mismatches.{row_mismatch, args_mismatch}
use Rattle.message_types.proofs.expr.+mismatch.Given as goal

abbrev pub invariant-row_mismatch-loop-operand : goal.invariant-row_mismatch-loop-operand
invariant-row_mismatch-loop-operand l = let named = named_at (placed l.declarations) in
    row_mismatch named l.left (placed_operands (drop l.operand-index l.rest)) ≡ row_mismatch named l.fn.left (placed_operands l.rest)

abbrev pub invariant-args_mismatch-loop-arg : goal.invariant-args_mismatch-loop-arg
invariant-args_mismatch-loop-arg l = let named = named_at (placed l.declarations) in record {
  counted : l.number ≡ l.arg-index;
  left : args_mismatch named l.routine (l.number + 1) (Some (map placed_param l.left)) (placed_exprs (drop l.arg-index l.args)) ≡ args_mismatch named l.routine 1 (Some (map placed_param l.fn.params)) (placed_exprs l.args);
}
