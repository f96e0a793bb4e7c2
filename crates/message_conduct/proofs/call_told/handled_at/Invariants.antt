use Rattle.std.proofs.Common.{◌≡◌, map, drop, find}
use Rattle.syntax_tree.specs.Placed.{placed_decl}
use Rattle.syntax_tree.specs.Parts.{processes}
use Rattle.message_conduct.specs.Told.{is_handled_at}
use Rattle.message_conduct.proofs.call_told.handled_at.Given as goal

abbrev pub invariant-loop-decl : goal.invariant-loop-decl
invariant-loop-decl l = find (is_handled_at l.place) (processes (map placed_decl (drop l.decl-index l.list))) ≡ find (is_handled_at l.place) (processes (map placed_decl l.list))
