use Rattle.std.proofs.Common.{◌≡◌, ℕ, true, ◌<◌, length}
use Rattle.static_calls.specs.Graph.{Reaches, marked}
use Rattle.static_calls.proofs.cycles.suspects.Given as goal

abbrev pub invariant-loop-node : goal.invariant-loop-node
invariant-loop-node l = record {
  size : length l.marks.items ≡ l.node;
  marks : (k : ℕ) → k < l.node → Reaches l.graph k k → marked l.marks.items k ≡ true;
}
