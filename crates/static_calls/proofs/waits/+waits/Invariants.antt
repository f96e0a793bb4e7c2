use Rattle.std.proofs.Common.{◌≡◌, drop}
use Rattle.syntax_tree.specs.Placed.{placed_stmts}
use Rattle.static_calls.specs.Calls.{stmts_wait}
use Rattle.static_calls.proofs.waits.+waits.Given as goal

abbrev pub invariant-stmts_wait-loop-stmt : goal.invariant-stmts_wait-loop-stmt
invariant-stmts_wait-loop-stmt l = stmts_wait (placed_stmts (drop l.stmt-index l.list)) ≡ stmts_wait (placed_stmts l.list)
