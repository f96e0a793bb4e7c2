use Rattle.std.proofs.Common.{◌≡◌, ◌++◌, map, take}
use Rattle.static_calls.specs.Graph.{turned}
use Rattle.static_calls.proofs.graph.turn_row.Given as goal

abbrev pub invariant-loop-to : goal.invariant-loop-to
invariant-loop-to l = l.edges.items ≡ l.initial.edges.items ++ map (turned l.node) (take l.to-index l.row)
