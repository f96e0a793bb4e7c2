use Rattle.std.proofs.Common.{◌≡◌, List, [], map, drop}
use Rattle.syntax_tree.specs.Placed.{placed_member}
use Rattle.static_names.specs.Occurrences.{Occurrence, members_names}
use Rattle.static_names.specs.Findings.{noted}
use Rattle.static_names.specs.Seen.{site}
use Rattle.static_names.proofs.part.members.Given as goal

abbrev pub invariant-loop-one : goal.invariant-loop-one
invariant-loop-one l = (more : List Occurrence) → noted l.findings (members_names (site l.around []) (map placed_member (drop l.one-index l.list)) more) ≡ noted l.fn.findings (members_names (site l.around []) (map placed_member l.list) more)
