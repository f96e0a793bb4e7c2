use Rattle.std.proofs.Common.{◌≡◌, ◌++◌, List, drop}
use Rattle.syntax_tree.specs.Placed.{placed, placed_exprs}
use Rattle.syntax_tree.specs.declared.place.Place.{Place}
use Rattle.static_calls.specs.Calls.{exprs_calls}
use Rattle.static_calls.specs.Tables.{declared_in}
use Rattle.static_calls.proofs.calls.exprs.Given as goal

abbrev pub invariant-loop-e : goal.invariant-loop-e
invariant-loop-e l = (more : List Place) → l.calls.items ++ exprs_calls (declared_in (placed l.declarations)) (placed_exprs (drop l.e-index l.list)) more ≡ l.fn.calls.items ++ exprs_calls (declared_in (placed l.declarations)) (placed_exprs l.list) more
