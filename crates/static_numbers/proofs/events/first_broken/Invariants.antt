use Rattle.std.proofs.Common.{◌≡◌, map, drop, None}
use Rattle.syntax_tree.specs.Placed.{placed, placed_decl}
use Rattle.static_rule.specs.Parts.{noted}
use Rattle.syntax_tree.specs.Parts.{events}
use Rattle.static_numbers.specs.Rules.{event_rules}
use Rattle.static_numbers.proofs.events.first_broken.Given as goal

abbrev pub invariant-loop-one : goal.invariant-loop-one
invariant-loop-one l = let rules = event_rules (placed l.declarations) in noted rules l.first (events (map placed_decl (drop l.one-index l.one-items))) ≡ noted rules None (events (map placed_decl l.one-items))
