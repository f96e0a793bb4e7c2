use Rattle.std.proofs.Common.{◌≡◌, ◌++◌, List, drop}
use Rattle.syntax_tree.specs.Placed.{placed, placed_expr, placed_exprs, placed_operands}
use Rattle.syntax_tree.specs.declared.place.Place.{Place}
use Rattle.static_calls.specs.Calls.{expr_calls, exprs_calls, operands_calls}
use Rattle.static_calls.specs.Tables.{declared_in}
use Rattle.static_calls.proofs.calls.+expr.Given as goal

abbrev pub invariant-loop-arg : goal.invariant-loop-arg
invariant-loop-arg l = (more : List Place) → l.calls.items ++ exprs_calls (declared_in (placed l.declarations)) (placed_exprs (drop l.arg-index l.arg-items)) more ≡ l.fn.calls.items ++ expr_calls (declared_in (placed l.declarations)) (placed_expr l.e) more

abbrev pub invariant-loop-pair : goal.invariant-loop-pair
invariant-loop-pair l = (more : List Place) → l.calls.items ++ operands_calls (declared_in (placed l.declarations)) (placed_operands (drop l.pair-index l.pair-items)) more ≡ l.fn.calls.items ++ expr_calls (declared_in (placed l.declarations)) (placed_expr l.e) more
