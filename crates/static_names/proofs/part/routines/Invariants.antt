use Rattle.std.proofs.Common.{◌≡◌, List, map, drop}
use Rattle.syntax_tree.specs.Placed.{placed_routine}
use Rattle.static_names.specs.Occurrences.{Occurrence, routines_names}
use Rattle.static_names.specs.Findings.{noted}
use Rattle.static_names.specs.Seen.{outer_site}
use Rattle.static_names.proofs.part.routines.Given as goal

abbrev pub invariant-loop-one : goal.invariant-loop-one
invariant-loop-one l = (more : List Occurrence) → noted l.findings (routines_names (outer_site l.outer) (map placed_routine (drop l.one-index l.list)) more) ≡ noted l.fn.findings (routines_names (outer_site l.outer) (map placed_routine l.list) more)
