use Rattle.std.proofs.Common.{◌<◌, length}
use Rattle.std.specs.Prelude.{All}
use Rattle.static_calls.specs.Graph.{AreTurned}
use Rattle.static_calls.proofs.graph.Graph.turned_edges.Given as goal

abbrev pub invariant-loop-node : goal.invariant-loop-node
invariant-loop-node l = record {
  within : All (λ e. (e.0 < length l.self) × (e.1 < length l.self)) l.edges.items;
  turned : AreTurned l.self l.node l.edges.items;
}
