use Rattle.std.proofs.Common.{◌≡◌, drop}
use Rattle.syntax_tree.specs.Placed.{placed_stmts, plain_stmts}
use Rattle.codegen_spec.specs.Told.{inside}
use Rattle.codegen_spec.specs.Made.{stmts_out}
use Rattle.codegen.proofs.code_builder.CodeBuilder.+stmt.Given as goal

abbrev pub invariant-stmts-loop-stmt : goal.invariant-stmts-loop-stmt
invariant-stmts-loop-stmt g l =
    (stmts_out (g.L.Lookup.program l.names) (inside l.fn.loops.items (g.L.Lookup.scope l.names)) (plain_stmts (placed_stmts (drop l.stmt-index l.stmts))) l.self
    ≡ stmts_out (g.L.Lookup.program l.names) (inside l.fn.loops.items (g.L.Lookup.scope l.names)) (plain_stmts (placed_stmts l.stmts)) l.fn.self)
    × (l.loops.items ≡ l.fn.loops.items)
