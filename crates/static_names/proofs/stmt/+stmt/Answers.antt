use Rattle.std.proofs.Common.{◌≡◌, [], ◌∷◌, refl, arith, ap, sym, ◌∙◌}
use Rattle.syntax_tree.specs.Placed.{placed_constant, placed_stmt, placed_stmts, loop}
use Rattle.syntax_tree.proofs.StmtViews.{stmt-For}
use Rattle.syntax_tree.specs.declared.expr.Constant.{Constant}
use Rattle.static_names.specs.Reach.{Site, inside}
use Rattle.static_names.specs.Occurrences.{declarations, loop_name, constant_names, stmt_names, stmts_names}
use Rattle.static_names.specs.Findings.{Found, noted}
use Rattle.static_names.specs.Seen.{site}
use Rattle.static_names.proofs.Walks.{step, finish}
use Rattle.static_names.proofs.stmt.+stmt.Goals as goal

pub stmts-loop-s-preserved : goal.stmts-loop-s-preserved
stmts-loop-s-preserved t c = let here = site c.args.around.now c.args.loops.now.items in record {
  same_loops = c.in-Ok.ensures.same_loops ∙ c.loop-s.invariant.same_loops;
  left = step (λ ss. stmts_names here (placed_stmts ss)) c.args.findings.now (stmts_names here (placed_stmts c.args.list.now)) (λ s. stmt_names here (placed_stmt s)) (λ s ss more. refl)
      c.args.list.now c.loop-s.s-index c.s-item.result c.loop-s.findings c.stmt.new.findings (omega arith) c.s-item.is
      (λ more. c.in-Ok.ensures.names more ∙ ap (λ ls. noted c.loop-s.findings (stmt_names (site c.args.around.now ls) (placed_stmt c.s-item.result) more)) c.loop-s.invariant.same_loops)
      c.loop-s.invariant.left;
}

pub stmts-returns-clause-names : goal.stmts-returns-clause-names
stmts-returns-clause-names t c = let here = site c.args.around.now c.args.loops.now.items in
    finish (λ ss. stmts_names here (placed_stmts ss)) c.args.findings.now (stmts_names here (placed_stmts c.args.list.now)) (λ more. refl)
    c.args.list.now c.loop-s.s-index c.loop-s.findings (omega arith) c.loop-s.invariant.left

pub stmt-returns-in-Ok-stmts-2-clause-names : goal.stmt-returns-in-Ok-stmts-2-clause-names
stmt-returns-in-Ok-stmts-2-clause-names t c more =
    let f = c.in-For in
    let here = site c.args.around.now c.args.loops.now.items in
    let scope = loop_name f.name f.name_place ∷ [] in
    let whole : placed_stmt c.args.s.now ≡ loop f.place f.name f.name_place (placed_constant f.low.value) (placed_constant f.high.value) (placed_stmts f.body) = ap placed_stmt f.is ∙ stmt-For f.place f.name f.name_place f.low f.high f.body in
    let body = placed_stmts f.body in
    let head : Site → Constant → Constant → Found =
    λ w low high. noted c.args.findings.now (declarations w.means [] scope (constant_names w (placed_constant low) (constant_names w (placed_constant high) (stmts_names (inside scope here) body more)))) in
    c.in-Ok-stmts-2.ensures.names more
    ∙ ap (λ w. noted c.loop_head.new.findings (stmts_names w (placed_stmts c.as_slice-in-For-2.result.now) more)) (c.in-Ok-enter.ensures.inner c.args.around.now)
    ∙ ap (λ b. noted c.loop_head.new.findings (stmts_names (inside scope here) (placed_stmts b) more)) c.as_slice-in-For-2.ensures
    ∙ c.in-Ok-loop_head.ensures (stmts_names (inside scope here) body more)
    ∙ ap (λ ls. let w = site c.args.around.now ls in head w c.deref.result.now c.deref-in-For.result.now) c.as_slice-in-For.ensures.value
    ∙ ap (λ low. head here low c.deref-in-For.result.now) c.deref.ensures
    ∙ ap (λ high. head here f.low.value high) c.deref-in-For.ensures
    ∙ ap (λ s. noted c.args.findings.now (stmt_names here s more)) (sym whole)
