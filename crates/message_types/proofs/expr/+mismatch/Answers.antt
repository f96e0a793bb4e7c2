use Rattle.std.proofs.Common.{◌≡◌, ◌+◌, rules, arith, map, drop, sym, ap, ◌∙◌}
use Rattle.std.specs.Option.{option_or}
use Rattle.std.proofs.lemmas.Grind.{common_steps}
use Rattle.syntax_tree.specs.Placed.{placed, placed_expr, placed_exprs, placed_operands, placed_param}
use Rattle.syntax_tree.proofs.Views.{expr-Chain}
use Rattle.static_declarations.specs.Things.{named_at}
use Rattle.static_types.specs.Sorts.{sort}
use Rattle.message_types.specs.Mismatches.{argument, mismatch, row_mismatch, unfit}
use Rattle.message_types.specs.Seen.{mismatch_of, seen}
use Rattle.message_types.proofs.Arguments.{args_go, args_end}
use Rattle.message_types.proofs.expr.+mismatch.Goals as goal

pub mismatch-returns-in-Chain : goal.mismatch-returns-in-Chain
mismatch-returns-in-Chain t c =
    let named = named_at (placed c.args.declarations.now) in
    let left : c.deref-in-Chain.result.now ≡ c.in-Chain.left.value = search rules in
    let left2 : c.deref-in-Chain-2.result.now ≡ c.in-Chain.left.value = search rules in
    let rest : c.as_slice-in-Chain.result.now ≡ c.in-Chain.rest = search rules in
    c.first.ensures
    ∙ (λ i. option_or (c.mismatch-in-Chain.ensures i) (c.row_mismatch.ensures i))
    ∙ (λ i. option_or (mismatch named (placed_expr (left i))) (row_mismatch named (c.sort.ensures i) (placed_operands (rest i))))
    ∙ ap (λ s. option_or (mismatch named (placed_expr c.in-Chain.left.value)) (row_mismatch named (sort named (placed_expr s)) (placed_operands c.in-Chain.rest))) left2
    ∙ ap (mismatch named) (sym (expr-Chain _ _) ∙ ap placed_expr (sym c.in-Chain.is))

pub args_mismatch-returns-in-Some-unfit : goal.args_mismatch-returns-in-Some-unfit
args_mismatch-returns-in-Some-unfit t c =
    let named = named_at (placed c.args.declarations.now) in
    let number = c.loop-arg.number + 1 in
    let e = placed_expr c.arg-item.result in
    let found = ap (λ s. unfit named (argument number c.args.routine.now) s e) (sym c.sort_of.ensures) ∙ sym c.unfit.ensures ∙ ap seen c.in-Some-unfit.is in
    let ends = args_end named c.args.routine.now number (placed_param c.in-Some.param.now) (map placed_param c.in-Some.others.now) e (placed_exprs (drop (c.loop-arg.arg-index + 1) c.args.args.now)) (mismatch_of c.in-Some-unfit.found) found in
    grind (arith, common_steps)

pub args_mismatch-loop-arg-preserved : goal.args_mismatch-loop-arg-preserved
args_mismatch-loop-arg-preserved t c =
    let named = named_at (placed c.args.declarations.now) in
    let number = c.loop-arg.number + 1 in
    let e = placed_expr c.arg-item.result in
    let none = ap (λ s. unfit named (argument number c.args.routine.now) s e) (sym c.sort_of.ensures) ∙ sym c.unfit.ensures ∙ ap seen c.in_default-unfit.is in
    let goes = args_go named c.args.routine.now number (placed_param c.in-Some.param.now) (map placed_param c.in-Some.others.now) e (placed_exprs (drop (c.loop-arg.arg-index + 1) c.args.args.now)) none in
    record { counted = ap (λ n. n + 1) c.loop-arg.invariant.counted; left = grind (arith, common_steps) }
