use Rattle.std.specs.Prelude.{[], ◌∷◌, ◌++◌, List, Option, option_to_list}
use Rattle.std.proofs.Common.{◌≡◌, ◌∙◌, ap, sym, arith}
use Rattle.replay_calls.specs.Reach.{memory_of, site_of}
use Rattle.replay_calls.specs.Seen.{answer_of}
use Rattle.replay_next.specs.Remains.{exprs_told, stmt_told}
use Rattle.replay_next.specs.Weights.{costs, expr_items_weight}
use Rattle.replay_next.specs.declared.remains.ExprItem.{ExprItem}
use Rattle.replay_next.proofs.Oks.{ok_all}
use Rattle.replay_next.proofs.Stack.{exprs_pushed, last_told}
use Rattle.replay_next.proofs.telling.tell.Goals as goal

pub returns-clause-run : goal.returns-clause-run
returns-clause-run c =
    let s = site_of c.args.scope.now c.args.home c.args.depth in
    let m = memory_of c.args.memory.now in
    let a = answer_of c.args.answer in
    let x = c.args.remains in
    let left = c.pop.new.self.items in
    let all : x.exprs.items ≡ left ++ c.in-Some.item ∷ [] = c.pop.ensures.items ∙ ap (λ (o : Option ExprItem). left ++ option_to_list o) c.in-Some.is in
    ok_all c.tell_expr.result _ _ (λ step h.
    h ∙ sym (ap (λ (l : List ExprItem). stmt_told s m x.stmt (exprs_told s m l a)) all ∙ ap (stmt_told s m x.stmt) (last_told s m left c.in-Some.item a))) c.tell_expr.ensures.run

pub returns-clause-falls : goal.returns-clause-falls
returns-clause-falls c =
    let k = costs c.args.scope.now c.args.depth in
    let x = c.args.remains in
    let left = c.pop.new.self.items in
    let all : x.exprs.items ≡ left ++ c.in-Some.item ∷ [] = c.pop.ensures.items ∙ ap (λ (o : Option ExprItem). left ++ option_to_list o) c.in-Some.is in
    let weight = ap (expr_items_weight k) all ∙ exprs_pushed k left c.in-Some.item in
    ok_all c.tell_expr.result _ _ (λ step h. omega (arith, weight, h)) c.tell_expr.ensures.falls
