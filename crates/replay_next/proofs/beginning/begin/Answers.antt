use Rattle.std.specs.Prelude.{List, Option, Some, None, cond}
use Rattle.std.proofs.Common.{◌≡◌, ◌∙◌, ap, sym}
use Rattle.base.specs.Words.{is_true}
use Rattle.syntax_tree.specs.declared.place.Place.{Place}
use Rattle.syntax_tree.specs.declared.expr.Expr.{Expr}
use Rattle.syntax_tree.specs.declared.stmt.Stmt.{Stmt}
use Rattle.syntax_tree.specs.declared.stmt.Stmt.TheVariants as stmt_is
use Rattle.source_semantics.specs.Run as run
use Rattle.replay_calls.specs.Reach.{site_of}
use Rattle.replay_next.specs.Remains.{else_of, expr_of, stmts_of}
use Rattle.replay_next.proofs.Oks.{ok_all}
use Rattle.replay_next.proofs.Texts.{of_assign, of_assign_empty, of_assign_entry, of_get, of_if, of_if_else, of_put, stmt_of}
use Rattle.replay_next.proofs.beginning.begin.Goals as goal

pub returns-in-Assign-clause-run : goal.returns-in-Assign-clause-run
returns-in-Assign-clause-run c =
    let s = site_of c.args.scope.now c.args.home c.args.depth in
    let is = of_assign c.args.stmt.now c.in-Assign.target c.in-Assign.value c.in-Assign.is in
    ok_all c.aim.result _ _ (λ step h. λ m. h m ∙ ap (run.run s m) (sym is)) c.aim.ensures.run

pub returns-in-AssignEntry-clause-run : goal.returns-in-AssignEntry-clause-run
returns-in-AssignEntry-clause-run c =
    let s = site_of c.args.scope.now c.args.home c.args.depth in
    let w = c.in-AssignEntry in
    let is = of_assign_entry c.args.stmt.now w.target w.mon w.mon_place w.entry w.entry_place w.args c.as_slice-args.result.now w.is c.as_slice-args.ensures in
    ok_all c.aim-in-AssignEntry.result _ _ (λ step h. λ m. h m ∙ ap (run.run s m) (sym is)) c.aim-in-AssignEntry.ensures.run

pub returns-in-AssignEmpty-clause-run : goal.returns-in-AssignEmpty-clause-run
returns-in-AssignEmpty-clause-run c =
    let s = site_of c.args.scope.now c.args.home c.args.depth in
    let w = c.in-AssignEmpty in
    let is = of_assign_empty c.args.stmt.now w.target w.cond w.cond_place w.is in
    ok_all c.aim-in-AssignEmpty.result _ _ (λ step h. λ m. h m ∙ ap (run.run s m) (sym is)) c.aim-in-AssignEmpty.ensures.run

choice_ran : (s : run.Site) (m : run.Memory) (x : Stmt) (p : Place) (e : Expr) (a : List Stmt) (b : Option (List Stmt)) → x ≡ stmt_is.If p e a b
    → run.with_value (run.value s m (expr_of e)) m (λ v. cond (is_true v) (run.run_all s m (stmts_of a)) (run.run_all s m (else_of b))) ≡ run.run s m (stmt_of x)
choice_ran s m x p e a None is = ap (run.run s m) (sym (of_if x p e a is))
choice_ran s m x p e a (Some b) is = ap (run.run s m) (sym (of_if_else x p e a b is))

pub returns-in-If-clause-run : goal.returns-in-If-clause-run
returns-in-If-clause-run c = λ m.
    let s = site_of c.args.scope.now c.args.home c.args.depth in
    let w = c.in-If in
    c.choice.ensures.run s m ∙ choice_ran s m c.args.stmt.now w.place w.test w.first w.second w.is

pub returns-in-Get-clause-run : goal.returns-in-Get-clause-run
returns-in-Get-clause-run c =
    let s = site_of c.args.scope.now c.args.home c.args.depth in
    let w = c.in-Get in
    let is = of_get c.args.stmt.now w.place w.device w.device_place w.target w.is in
    ok_all c.aim-in-Get.result _ _ (λ step h. λ m. h m ∙ ap (run.run s m) (sym is)) c.aim-in-Get.ensures.run

pub returns-in-Put-clause-run : goal.returns-in-Put-clause-run
returns-in-Put-clause-run c = λ m.
    let s = site_of c.args.scope.now c.args.home c.args.depth in
    let w = c.in-Put in
    let is = of_put c.args.stmt.now w.place w.device w.device_place w.value w.is in
    c.evaluates-in-Put.ensures.run s m ∙ ap (run.run s m) (sym is)
