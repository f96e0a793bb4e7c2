use Rattle.std.proofs.Common.{◌≡◌, ◌+◌, ◌≤◌, drop}
use Rattle.syntax_tree.specs.Placed.{placed_stmts, plain_stmts}
use Rattle.code_spec.specs.Layout.{loops}
use Rattle.code_cost.specs.Sums.{held}
use Rattle.code_cost.proofs.loops.+count.Given as goal

abbrev pub invariant-count_from-loop-stmt : goal.invariant-count_from-loop-stmt
invariant-count_from-loop-stmt l =
    (held (l.count + loops (plain_stmts (placed_stmts (drop l.stmt-index l.stmts)))) ≡ held (l.fn.before + loops (plain_stmts (placed_stmts l.stmts))))
    × (l.count ≤ 2147483647)
