use Rattle.std.specs.Prelude.{◌∷◌, List}
use Rattle.std.proofs.Common.{◌≡◌, ◌∙◌, ◌+◌, ◌<◌, ap, sym, suc, arith}
use Rattle.source_semantics.specs.Run as run
use Rattle.replay_state.specs.declared.call.Item.{Item}
use Rattle.replay_state.specs.declared.call.Item.TheVariants as item_is
use Rattle.replay_calls.specs.Reach.{site_of}
use Rattle.syntax_tree.specs.declared.stmt.Stmt.{Stmt}
use Rattle.replay_next.specs.Driving.{rest_of, then_items}
use Rattle.replay_next.specs.Remains.{step_of, stmts_of}
use Rattle.replay_next.specs.Weights.{costs, items_weight, step_weight, stmts_weight}
use Rattle.replay_next.proofs.Oks.{ok_all}
use Rattle.replay_next.proofs.Stack.{items_pushed}
use Rattle.replay_next.proofs.Stepping.{rest_pushed, then_others}
use Rattle.replay_next.proofs.Texts.{stmt_of}
use Rattle.replay_next.proofs.items.next_stmt.Goals as goal

pub returns-in_ok-push-in-Some-clause-run : goal.returns-in_ok-push-in-Some-clause-run
returns-in_ok-push-in-Some-clause-run c =
    let s = site_of c.args.scope.now c.args.home c.args.depth in
    let some = c.in-Some.ensures.cases in
    let first = c.in-Some.stmt-is in
    let others = c.in-Some.others-is in
    let all : c.args.stmts.now ≡ c.in-Some.stmt.now ∷ c.in-Some.others.now = cc in
    let old = c.args.rest.now.items in
    let ss = stmts_of c.in-Some.others.now in
    ok_all c.begin.result _ _ (λ step h. λ m.
    ap (λ (l : List Item). then_items s (rest_of l) (step_of s step m)) c.in_ok-push-in-Some.ensures.items
    ∙ (ap (λ l. then_items s l (step_of s step m)) (rest_pushed old (item_is.DoAll c.in-Some.others))
    ∙ (ap (then_items s (run.do_all ss ∷ rest_of old)) (h m)
    ∙ (then_others s (rest_of old) ss (run.run s m (stmt_of c.in-Some.stmt.now))
    ∙ sym (ap (λ (l : List Stmt). then_items s (rest_of old) (run.run_all s m (stmts_of l))) all))))) c.begin.ensures.run

pub returns-in_ok-push-in-Some-clause-falls : goal.returns-in_ok-push-in-Some-clause-falls
returns-in_ok-push-in-Some-clause-falls c =
    let k = costs c.args.scope.now c.args.depth in
    let some = c.in-Some.ensures.cases in
    let first = c.in-Some.stmt-is in
    let others = c.in-Some.others-is in
    let all : c.args.stmts.now ≡ c.in-Some.stmt.now ∷ c.in-Some.others.now = cc in
    let old = c.args.rest.now.items in
    let weight = ap (items_weight k) c.in_ok-push-in-Some.ensures.items ∙ items_pushed k old (item_is.DoAll c.in-Some.others) in
    let texts = ap (λ (l : List Stmt). stmts_weight k (stmts_of l)) all in
    ok_all c.begin.result _ _ (λ step h.
    let less : items_weight k c.push.new.self.items + step_weight k step < items_weight k old + suc (stmts_weight k (stmts_of c.args.stmts.now)) = omega (arith, weight, texts, h) in
    less) c.begin.ensures.falls
