use Rattle.std.proofs.Common.{◌≡◌, map, drop}
use Rattle.syntax_tree.specs.Placed.{placed_routine}
use Rattle.message_conduct.specs.Sentences.{name_at}
use Rattle.message_conduct.proofs.sentences.name_among.Given as goal

abbrev pub invariant-loop-routine : goal.invariant-loop-routine
invariant-loop-routine l = name_at l.place (map placed_routine (drop l.routine-index l.list)) ≡ name_at l.place (map placed_routine l.list)
