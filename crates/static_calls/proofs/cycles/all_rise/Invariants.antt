use Rattle.std.proofs.Common.{ℕ, ◌<◌, ◌≤◌, get_or}
use Rattle.static_calls.specs.Graph.{HasEdge}
use Rattle.static_calls.proofs.cycles.all_rise.Given as goal

abbrev pub invariant-loop-node : goal.invariant-loop-node
invariant-loop-node l = (a b : ℕ) → a < l.node → HasEdge l.graph a b → get_or l.numbers a 0 ≤ get_or l.numbers b 0
