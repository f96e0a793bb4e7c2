use Rattle.std.proofs.Common.{◌≡◌, map, drop}
use Rattle.syntax_tree.specs.Placed.{placed, placed_decl}
use Rattle.syntax_tree.specs.Parts.{events}
use Rattle.message_rules.specs.Findings.{event_findings}
use Rattle.message_rules.specs.Seen.{left}
use Rattle.message_rules.proofs.events.look.Given as goal

abbrev pub invariant-loop-one : goal.invariant-loop-one
invariant-loop-one l = let of = event_findings (placed l.declarations) in left of l.broken l.known (events (map placed_decl (drop l.one-index l.one-items))) ≡ left of l.broken l.fn.known (events (map placed_decl l.one-items))
