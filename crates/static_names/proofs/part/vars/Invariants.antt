use Rattle.std.proofs.Common.{◌≡◌, List, [], map, drop}
use Rattle.syntax_tree.specs.Placed.{placed_var}
use Rattle.static_names.specs.Occurrences.{Occurrence, vars_names}
use Rattle.static_names.specs.Findings.{noted}
use Rattle.static_names.specs.Seen.{site}
use Rattle.static_names.proofs.part.vars.Given as goal

abbrev pub invariant-loop-var : goal.invariant-loop-var
invariant-loop-var l = (more : List Occurrence) → noted l.findings (vars_names (site l.around []) (map placed_var (drop l.var-index l.list)) more) ≡ noted l.fn.findings (vars_names (site l.around []) (map placed_var l.list) more)
