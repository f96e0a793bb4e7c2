use Rattle.static_calls.proofs.Spreading.{AreFollowed}
use Rattle.static_calls.proofs.graph.Graph.spread.Given as goal

abbrev pub invariant-loop-turn : goal.invariant-loop-turn
invariant-loop-turn l = AreFollowed l.self l.initial.marks l.turn l.found.items l.marks
