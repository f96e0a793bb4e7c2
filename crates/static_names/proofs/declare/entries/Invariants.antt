use Rattle.std.proofs.Common.{map, drop}
use Rattle.syntax_tree.specs.Placed.{placed_routine}
use Rattle.static_names.specs.Occurrences.{entry_name}
use Rattle.static_names.specs.Seen.{meaning, outer_site, Scoped}
use Rattle.static_names.proofs.declare.entries.Given as goal

abbrev pub invariant-loop-entry : goal.invariant-loop-entry
invariant-loop-entry l = Scoped (outer_site l.outer).means l.fn.findings (meaning l.fn.scope.entries) (map entry_name (map placed_routine l.list)) l.findings (meaning l.scope.entries) (map entry_name (map placed_routine (drop l.entry-index l.list)))
