use Rattle.std.proofs.Common.{◌≡◌, ◌++◌, map, take}
use Rattle.syntax_tree.specs.Placed.{placed_routine}
use Rattle.static_calls.specs.Tables.{seen_routines}
use Rattle.static_calls.proofs.routines.list_all.Given as goal

abbrev pub invariant-loop-routine : goal.invariant-loop-routine
invariant-loop-routine l = seen_routines l.list.items ≡ seen_routines l.fn.list.items ++ map placed_routine (take l.routine-index l.routines)
