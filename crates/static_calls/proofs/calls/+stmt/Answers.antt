use Rattle.std.proofs.Common.{refl, arith}
use Rattle.syntax_tree.specs.Placed.{placed, placed_stmt, placed_stmts}
use Rattle.static_calls.specs.Calls.{stmt_calls, stmts_calls}
use Rattle.static_calls.specs.Tables.{declared_in}
use Rattle.static_calls.proofs.Walks.{step, finish}
use Rattle.static_calls.proofs.calls.+stmt.Goals as goal

pub stmts-loop-s-preserved : goal.stmts-loop-s-preserved
stmts-loop-s-preserved t c = let declared = declared_in (placed c.args.declarations.now) in
    step (λ ss. stmts_calls declared (placed_stmts ss)) c.args.calls.now.items (stmts_calls declared (placed_stmts c.args.list.now)) (λ s. stmt_calls declared (placed_stmt s)) (λ s ss more. refl)
    c.args.list.now c.loop-s.s-index c.s-item.result c.loop-s.calls.items c.stmt.new.calls.items (omega arith) c.s-item.is c.in_ok-stmt.ensures c.loop-s.invariant

pub stmts-returns : goal.stmts-returns
stmts-returns t c = let declared = declared_in (placed c.args.declarations.now) in
    finish (λ ss. stmts_calls declared (placed_stmts ss)) c.args.calls.now.items (stmts_calls declared (placed_stmts c.args.list.now)) (λ more. refl)
    c.args.list.now c.loop-s.s-index c.loop-s.calls.items (omega arith) c.loop-s.invariant
