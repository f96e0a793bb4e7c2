use Rattle.std.proofs.Common.{map, sym, ◌∙◌, Some}
use Rattle.std.proofs.lemmas.List.{length-map}
use Rattle.syntax_tree.specs.Placed.{placed_exprs, placed_param}
use Rattle.message_types.specs.Mismatches.{counts_differ}
use Rattle.message_types.proofs.Arguments.{count_placed, as_many, not_as_many}
use Rattle.message_types.proofs.expr.miscounted.Goals as goal

pub returns-then-args-params : goal.returns-then-args-params
returns-then-args-params c =
    let es = c.args.args.now in
    let vs = c.args.params.now in
    as_many c.args.routine.now (map placed_param vs) (placed_exprs es) (count_placed es ∙ c.if-args-params.true ∙ sym (length-map vs placed_param))

pub returns : goal.returns
returns c =
    let es = c.args.args.now in
    let vs = c.args.params.now in
    (λ i. Some (counts_differ c.args.routine.now (sym (length-map vs placed_param) i) (sym (count_placed es) i)))
    ∙ not_as_many c.args.routine.now (map placed_param vs) (placed_exprs es) (λ same. c.if-args-params.false (sym (count_placed es) ∙ same ∙ length-map vs placed_param))
