use Rattle.std.proofs.Common.{◌≡◌, drop}
use Rattle.syntax_tree.specs.Placed.{placed_stmts, plain_stmts}
use Rattle.codegen_spec.specs.Told.{inside}
use Rattle.code_cost.specs.Sums.{nothing}
use Rattle.code_cost.specs.Forms.{stmts_size}
use Rattle.code_cost.proofs.statements.+stmt.Given as goal

abbrev pub invariant-stmts-loop-stmt : goal.invariant-stmts-loop-stmt
invariant-stmts-loop-stmt g l =
    (stmts_size (g.L.Lookup.program l.names) (inside l.fn.loops.items (g.L.Lookup.scope l.names)) l.rows l.sum (plain_stmts (placed_stmts (drop l.stmt-index l.stmts)))
    ≡ stmts_size (g.L.Lookup.program l.names) (inside l.fn.loops.items (g.L.Lookup.scope l.names)) l.rows nothing (plain_stmts (placed_stmts l.stmts)))
    × (l.loops.items ≡ l.fn.loops.items)
