use Rattle.std.proofs.Common.{◌≡◌, List, [], map, drop}
use Rattle.syntax_tree.specs.Placed.{placed_param}
use Rattle.static_names.specs.Occurrences.{Occurrence, params_names}
use Rattle.static_names.specs.Findings.{noted}
use Rattle.static_names.specs.Seen.{site}
use Rattle.static_names.proofs.part.params.Given as goal

abbrev pub invariant-loop-param : goal.invariant-loop-param
invariant-loop-param l = (more : List Occurrence) → noted l.findings (params_names (site l.around []) (map placed_param (drop l.param-index l.list)) more) ≡ noted l.fn.findings (params_names (site l.around []) (map placed_param l.list) more)
