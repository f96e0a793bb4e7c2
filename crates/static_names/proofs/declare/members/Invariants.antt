use Rattle.std.proofs.Common.{map, drop}
use Rattle.syntax_tree.specs.Placed.{placed_member}
use Rattle.static_names.specs.Occurrences.{member_name}
use Rattle.static_names.specs.Seen.{meaning, outer_site, Scoped}
use Rattle.static_names.proofs.declare.members.Given as goal

abbrev pub invariant-loop-one : goal.invariant-loop-one
invariant-loop-one l = Scoped (outer_site l.outer).means l.fn.findings (meaning l.fn.scope.entries) (map member_name (map placed_member l.list)) l.findings (meaning l.scope.entries) (map member_name (map placed_member (drop l.one-index l.list)))
