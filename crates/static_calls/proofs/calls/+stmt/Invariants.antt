use Rattle.std.proofs.Common.{◌≡◌, ◌++◌, List, drop}
use Rattle.syntax_tree.specs.Placed.{placed, placed_stmts}
use Rattle.syntax_tree.specs.declared.place.Place.{Place}
use Rattle.static_calls.specs.Calls.{stmts_calls}
use Rattle.static_calls.specs.Tables.{declared_in}
use Rattle.static_calls.proofs.calls.+stmt.Given as goal

abbrev pub invariant-stmts-loop-s : goal.invariant-stmts-loop-s
invariant-stmts-loop-s l = (more : List Place) → l.calls.items ++ stmts_calls (declared_in (placed l.declarations)) (placed_stmts (drop l.s-index l.list)) more ≡ l.fn.calls.items ++ stmts_calls (declared_in (placed l.declarations)) (placed_stmts l.list) more
