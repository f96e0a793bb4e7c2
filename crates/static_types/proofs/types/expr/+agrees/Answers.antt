use Rattle.std.proofs.Common.{◌+◌, arith, map, drop, ap, sym, ◌∙◌}
use Rattle.std.proofs.lemmas.Grind.{common_steps}
use Rattle.syntax_tree.specs.Placed.{placed, placed_expr, placed_exprs, placed_operands, placed_param}
use Rattle.syntax_tree.proofs.Views.{expr-Chain}
use Rattle.static_declarations.specs.Things.{named_at}
use Rattle.static_types.specs.Types.{is_of}
use Rattle.static_types.proofs.Judged.{row-from, args_go}
use Rattle.static_types.proofs.types.expr.+agrees.Goals as goal

pub agreed-returns-in_ok-agreed-in-Chain : goal.agreed-returns-in_ok-agreed-in-Chain
agreed-returns-in_ok-agreed-in-Chain t c =
    let v = expr-Chain c.in-Chain.first c.in-Chain.rest in
    let r = row-from (named_at (placed c.args.declarations.now)) c.in_ok-agreed-in-Chain.field-0 (placed_expr c.in-Chain.first.value) (placed_operands c.in-Chain.rest) in
    grind (arith, common_steps)

pub args_agree-loop-arg-preserved : goal.args_agree-loop-arg-preserved
args_agree-loop-arg-preserved t c =
    let goes = args_go (named_at (placed c.args.declarations.now)) (placed_param c.in-Some.param.now) (map placed_param c.in-Some.others.now) (placed_expr c.arg-item.result) (placed_exprs (drop (c.loop-arg.arg-index + 1) c.args.args.now)) (ap (λ s. is_of (named_at (placed c.args.declarations.now)) s (placed_expr c.arg-item.result)) (sym c.sort_of.ensures) ∙ sym c.is_of.ensures ∙ c.if-not-is_of.false) in
    grind (arith, common_steps)
