use Rattle.std.proofs.Common.{◌≡◌, ◌++◌, ℕ, List, drop}
use Rattle.static_calls.specs.Tables.{edges_to}
use Rattle.static_calls.proofs.numbers.add_edges.Given as goal

abbrev pub invariant-loop-callee : goal.invariant-loop-callee
invariant-loop-callee l = (more : List (ℕ × ℕ)) → l.edges.items ++ edges_to l.numbers.keys l.from (drop l.callee-index l.calls) more ≡ l.fn.edges.items ++ edges_to l.numbers.keys l.from l.calls more
