use Rattle.std.proofs.Common.{map, drop}
use Rattle.syntax_tree.specs.Placed.{placed_routine}
use Rattle.static_names.specs.Occurrences.{routine_name}
use Rattle.static_names.specs.Seen.{meaning, outer_site, Scoped}
use Rattle.static_names.proofs.declare.routines.Given as goal

abbrev pub invariant-loop-routine : goal.invariant-loop-routine
invariant-loop-routine l = Scoped (outer_site l.outer).means l.fn.findings (meaning l.fn.scope.entries) (map routine_name (map placed_routine l.list)) l.findings (meaning l.scope.entries) (map routine_name (map placed_routine (drop l.routine-index l.list)))
