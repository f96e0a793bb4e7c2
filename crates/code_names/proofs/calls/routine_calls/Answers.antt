use Rattle.std.proofs.Common.{◌++◌, List, [], ap, sym, ◌∙◌}
use Rattle.std.proofs.lemmas.List.{append-nil}
use Rattle.syntax_tree.specs.Placed.{optional, placed_scalar, placed_expr, placed_stmts, plain_answers, plain_stmts}
use Rattle.code_spec.specs.Numbering.{Called}
use Rattle.code_names.specs.Calls.{calls_told, stmts_called, answers_called}
use Rattle.code_names.proofs.Listing.{all-calls}
use Rattle.code_names.proofs.calls.routine_calls.Goals as goal

pub returns : goal.returns
returns c =
    let answers = plain_answers (optional placed_scalar c.args.routine.now.result) (optional placed_expr c.args.routine.now.value) in
    let last : List Called = answers_called answers [] in
    sym (append-nil (calls_told c.answer.new.calls.items))
    ∙ c.in_ok-answer.ensures []
    ∙ c.in_ok-stmts.ensures last
    ∙ ap (λ l. calls_told l ++ stmts_called (plain_stmts (placed_stmts c.as_slice.result.now)) last) c.new-calls.ensures.items
    ∙ ap (λ ss. stmts_called (plain_stmts (placed_stmts ss)) last) c.as_slice.ensures
    ∙ all-calls (plain_stmts (placed_stmts c.args.routine.now.body)) answers
