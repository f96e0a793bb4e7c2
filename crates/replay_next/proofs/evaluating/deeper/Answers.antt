use Rattle.std.specs.Prelude.{List}
use Rattle.std.proofs.Common.{◌∙◌, ap, arith}
use Rattle.source_semantics.specs.Run as run
use Rattle.replay_next.specs.Remains.{expr_of, exprs_told, stmt_told}
use Rattle.replay_next.specs.Weights.{expr_items_weight}
use Rattle.replay_next.specs.declared.remains.ExprItem.{ExprItem}
use Rattle.replay_next.proofs.Stack.{exprs_pushed, last_told}
use Rattle.replay_next.proofs.evaluating.deeper.Goals as goal

pub returns-clause-run : goal.returns-clause-run
returns-clause-run c = λ s m.
    let x = c.args.remains in
    let a = run.value s m (expr_of c.args.part.now) in
    ap (λ (l : List ExprItem). stmt_told s m x.stmt (exprs_told s m l a)) c.in_ok-push.ensures.items
    ∙ ap (stmt_told s m x.stmt) (last_told s m x.exprs.items c.args.item a)

pub returns-clause-falls : goal.returns-clause-falls
returns-clause-falls c = λ k.
    let x = c.args.remains in
    let pushed = ap (expr_items_weight k) c.in_ok-push.ensures.items in
    let all = exprs_pushed k x.exprs.items c.args.item in
    omega (arith, pushed, all)
