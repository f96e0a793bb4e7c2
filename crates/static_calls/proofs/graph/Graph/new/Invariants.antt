use Rattle.std.proofs.Common.{◌≡◌, length, take}
use Rattle.static_calls.specs.Graph.{HasEdges, rows_of}
use Rattle.static_calls.proofs.graph.Graph.new.Given as goal

abbrev pub invariant-loop-from : goal.invariant-loop-from
invariant-loop-from l = record {
  size : length l.rows.items ≡ l.size;
  edges : HasEdges (rows_of l.rows.items) (take l.from-index l.edges);
}
