use Rattle.std.proofs.Common.{◌≡◌, map, drop}
use Rattle.syntax_tree.specs.Placed.{placed_decl}
use Rattle.syntax_tree.specs.Parts.{routines}
use Rattle.message_conduct.specs.Sentences.{name_at}
use Rattle.message_conduct.proofs.sentences.routine_name.Given as goal

abbrev pub invariant-loop-decl : goal.invariant-loop-decl
invariant-loop-decl l = name_at l.place (routines (map placed_decl (drop l.decl-index l.list))) ≡ name_at l.place (routines (map placed_decl l.list))
