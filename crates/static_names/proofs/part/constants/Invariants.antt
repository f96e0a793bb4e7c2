use Rattle.std.proofs.Common.{◌≡◌, List, [], map, drop}
use Rattle.syntax_tree.specs.Placed.{placed_constant}
use Rattle.static_names.specs.Occurrences.{Occurrence, constants_names}
use Rattle.static_names.specs.Findings.{noted}
use Rattle.static_names.specs.Seen.{site}
use Rattle.static_names.proofs.part.constants.Given as goal

abbrev pub invariant-loop-number : goal.invariant-loop-number
invariant-loop-number l = (more : List Occurrence) → noted l.findings (constants_names (site l.around []) (map placed_constant (drop l.number-index l.list)) more) ≡ noted l.fn.findings (constants_names (site l.around []) (map placed_constant l.list) more)
