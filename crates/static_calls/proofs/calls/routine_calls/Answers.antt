use Rattle.std.proofs.Common.{◌++◌, List, [], ap, sym, ◌∙◌}
use Rattle.std.proofs.lemmas.List.{append-nil}
use Rattle.syntax_tree.specs.Placed.{placed, optional, placed_expr, placed_stmts}
use Rattle.syntax_tree.specs.declared.place.Place.{Place}
use Rattle.static_calls.specs.Calls.{stmts_calls, answer_calls}
use Rattle.static_calls.specs.Tables.{declared_in}
use Rattle.static_calls.proofs.calls.routine_calls.Goals as goal

pub returns : goal.returns
returns c =
    let declared = declared_in (placed c.args.declarations.now) in
    let last : List Place = answer_calls declared (optional placed_expr c.args.routine.now.value) [] in
    sym (append-nil c.answer.new.calls.items)
    ∙ c.in_ok-answer.ensures []
    ∙ c.in_ok-stmts.ensures last
    ∙ ap (λ (l : List Place). l ++ stmts_calls declared (placed_stmts c.as_slice.result.now) last) c.new-calls.ensures.items
    ∙ ap (λ ss. stmts_calls declared (placed_stmts ss) last) c.as_slice.ensures
