use Rattle.std.proofs.Common.{◌≡◌, map, drop}
use Rattle.syntax_tree.specs.Placed.{placed_decl}
use Rattle.message_rules.specs.Sentences.{event_name}
use Rattle.message_rules.proofs.sentences.event_name.Given as goal

abbrev pub invariant-loop-decl : goal.invariant-loop-decl
invariant-loop-decl l = event_name l.place (map placed_decl (drop l.decl-index l.list)) ≡ event_name l.place (map placed_decl l.list)
