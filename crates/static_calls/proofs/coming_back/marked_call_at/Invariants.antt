use Rattle.std.proofs.Common.{◌≡◌, drop}
use Rattle.syntax_tree.specs.Placed.{placed}
use Rattle.static_calls.specs.Tables.{declared_in, seen_routines, marked_call_at}
use Rattle.static_calls.proofs.coming_back.marked_call_at.Given as goal

abbrev pub invariant-loop-routine : goal.invariant-loop-routine
invariant-loop-routine l =
    marked_call_at (declared_in (placed l.declarations)) l.numbers.keys l.marks l.place (seen_routines (drop l.routine-index l.routines))
    ≡ marked_call_at (declared_in (placed l.declarations)) l.numbers.keys l.marks l.place (seen_routines l.routines)
