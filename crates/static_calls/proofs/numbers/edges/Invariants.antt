use Rattle.std.proofs.Common.{◌≡◌, ◌++◌, [], drop}
use Rattle.syntax_tree.specs.Placed.{placed}
use Rattle.static_calls.specs.Tables.{declared_in, seen_routines, edges_of}
use Rattle.static_calls.proofs.numbers.edges.Given as goal

abbrev pub invariant-loop-routine : goal.invariant-loop-routine
invariant-loop-routine l = l.edges.items ++ edges_of (declared_in (placed l.declarations)) l.numbers.keys (seen_routines (drop l.routine-index l.routines)) [] ≡ edges_of (declared_in (placed l.declarations)) l.numbers.keys (seen_routines l.routines) []
