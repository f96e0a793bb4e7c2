use Rattle.std.proofs.lemmas.Grind.{common_steps}
use Rattle.std.proofs.Common.{arith, ◌≡◌, ℕ, ◌+◌, drop, slice_get, sym, ap, ◌∙◌}
use Rattle.syntax_tree.specs.Placed.{placed_expr, placed_exprs, plain_expr, plain_exprs}
use Rattle.syntax_tree.proofs.Views.{expr-Call, expr-Chain}
use Rattle.codegen_spec.specs.Told.{inside}
use Rattle.code_cost.specs.declared.measure.Measure.{Measure}
use Rattle.code_cost.specs.Forms.{args_size, argument, expr_size}
use Rattle.code_cost.proofs.Steps.{turned}
use Rattle.code_cost.proofs.expressions.+expr.Goals as goal

-- src/expressions.rt:106:5
pub args-loop-arg-preserved : goal.args-loop-arg-preserved
args-loop-arg-preserved g t c =
    let p = g.L.Lookup.program c.args.names.now in
    let s = inside c.args.loops.now (g.L.Lookup.scope c.args.names.now) in
    let rows = c.args.rows.now in
    let rs = c.args.ranges.now in
    let n = c.loop-arg.number in
    let sum = c.loop-arg.sum in
    let rest = plain_exprs (placed_exprs (drop (c.loop-arg.arg-index + 1) c.args.args.now)) in
    let m : c.next_argument-sum.result ≡ argument n sum (slice_get rs n) (expr_size p s rows (plain_expr (placed_expr c.arg-item.result))) = c.next_argument-sum.ensures ∙ ap (λ k. argument n sum (slice_get rs n) k) c.expr-one.ensures in
    let number : n ≡ c.loop-arg.arg-index = c.loop-arg.invariant.1 in (
      turned (λ (o : ℕ × Measure) ys. args_size p s rows o.0 o.1 (plain_exprs (placed_exprs ys)) rs) c.args.args.now c.loop-arg.arg-index c.arg-item.result (n, sum) (n + 1, c.next_argument-sum.result) _ c.loop-arg-test.true c.arg-item.is
          c.loop-arg.invariant.0
          (ap (λ k. args_size p s rows (n + 1) k rest rs) (sym m)),
      ap (λ k. k + 1) number,
    )

-- src/expressions.rt:151:1
pub expr-returns-in-Call : goal.expr-returns-in-Call
expr-returns-in-Call g t c =
    let v = expr-Call c.in-Call.place c.in-Call.name c.in-Call.args in
    grind (arith, common_steps)

-- src/expressions.rt:151:1
pub expr-returns-in-Chain : goal.expr-returns-in-Chain
expr-returns-in-Chain g t c =
    let v = expr-Chain c.in-Chain.first c.in-Chain.rest in
    grind (arith, common_steps)
