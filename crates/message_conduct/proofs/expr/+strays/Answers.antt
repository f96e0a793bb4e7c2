use Rattle.std.proofs.Common.{◌≡◌, rules, sym, ap, ◌∙◌}
use Rattle.std.specs.Option.{option_or}
use Rattle.syntax_tree.specs.Placed.{placed, placed_expr, placed_operands}
use Rattle.syntax_tree.proofs.Views.{expr-Chain}
use Rattle.static_declarations.specs.Things.{named_at}
use Rattle.message_conduct.specs.Faults.{expr_fault, operands_fault}
use Rattle.message_conduct.proofs.expr.+strays.Goals as goal

pub expr_stray-returns-in-Chain : goal.expr_stray-returns-in-Chain
expr_stray-returns-in-Chain t c =
    let named = named_at (placed c.args.declarations.now) in
    let left : c.deref-in-Chain.result.now ≡ c.in-Chain.left.value = search rules in
    let rest : c.as_slice-in-Chain.result.now ≡ c.in-Chain.rest = search rules in
    c.first-in-Chain.ensures
    ∙ (λ i. option_or (c.expr_stray-in-Chain.ensures i) (c.operands_stray.ensures i))
    ∙ (λ i. option_or (expr_fault named (placed_expr (left i))) (operands_fault named (placed_operands (rest i))))
    ∙ ap (expr_fault named) (sym (expr-Chain _ _) ∙ ap placed_expr (sym c.in-Chain.is))
