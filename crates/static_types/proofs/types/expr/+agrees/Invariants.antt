use Rattle.std.proofs.Common.{◌≡◌, Some, map, drop}
use Rattle.syntax_tree.specs.Placed.{placed, placed_exprs, placed_operands, placed_param}
use Rattle.static_declarations.specs.Things.{named_at}
use Rattle.static_types.specs.Sorts.{row_judged, call_agrees}
use Rattle.static_types.proofs.types.expr.+agrees.Given as goal

abbrev pub invariant-args_agree-loop-arg : goal.invariant-args_agree-loop-arg
invariant-args_agree-loop-arg l = let named = named_at (placed l.declarations) in
    call_agrees named (Some (map placed_param l.left)) (placed_exprs (drop l.arg-index l.args)) ≡ call_agrees named (Some (map placed_param l.fn.params)) (placed_exprs l.args)

abbrev pub invariant-row_agreed-loop-operand : goal.invariant-row_agreed-loop-operand
invariant-row_agreed-loop-operand l = let named = named_at (placed l.declarations) in
    row_judged named l.left (placed_operands (drop l.operand-index l.rest)) ≡ row_judged named l.fn.left (placed_operands l.rest)
