use Rattle.std.proofs.Common.{map, drop}
use Rattle.syntax_tree.specs.Placed.{placed_param}
use Rattle.static_names.specs.Occurrences.{param_name}
use Rattle.static_names.specs.Seen.{meaning, outer_site, Scoped}
use Rattle.static_names.proofs.declare.params.Given as goal

abbrev pub invariant-loop-param : goal.invariant-loop-param
invariant-loop-param l = Scoped (outer_site l.outer).means l.fn.findings (meaning l.fn.scope.entries) (map param_name (map placed_param l.list)) l.findings (meaning l.scope.entries) (map param_name (map placed_param (drop l.param-index l.list)))
