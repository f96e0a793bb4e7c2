use Rattle.std.proofs.Common.{map, drop}
use Rattle.syntax_tree.specs.Placed.{placed_var}
use Rattle.static_names.specs.Occurrences.{var_name}
use Rattle.static_names.specs.Seen.{meaning, outer_site, Scoped}
use Rattle.static_names.proofs.declare.vars.Given as goal

abbrev pub invariant-loop-var : goal.invariant-loop-var
invariant-loop-var l = Scoped (outer_site l.outer).means l.fn.findings (meaning l.fn.scope.entries) (map var_name (map placed_var l.list)) l.findings (meaning l.scope.entries) (map var_name (map placed_var (drop l.var-index l.list)))
