use Rattle.std.proofs.Common.{[], ◌∷◌, map, ap, ◌∙◌}
use Rattle.syntax_tree.specs.Placed.{placed_param, placed_scalar, placed_var, placed_stmts, placed_expr, optional}
use Rattle.static_names.specs.Occurrences.{closes, params_names, optional_names, scalar_names, vars_names, stmts_names, expr_names}
use Rattle.static_names.specs.Findings.{noted}
use Rattle.static_names.specs.Seen.{site}
use Rattle.static_names.proofs.part.routine_parts.Goals as goal

pub returns : goal.returns
returns c more =
    let r = c.args.routine.now in
    let here = site c.args.around.now [] in
    let after_value = closes r.close r.close_place r.name ∷ more in
    let after_body = optional_names (expr_names here) (optional placed_expr r.value) after_value in
    let after_vars = stmts_names here (placed_stmts r.body) after_body in
    let after_result = vars_names here (map placed_var r.vars) after_vars in
    let after_params = optional_names (scalar_names here) (optional placed_scalar r.result) after_result in
    ap (λ f. noted f more) c.close.ensures
    ∙ c.in-Ok-value.ensures after_value
    ∙ c.in-Ok-body.ensures after_body
    ∙ ap (λ l. noted c.vars.new.findings (stmts_names here (placed_stmts l) after_body)) c.as_slice-3.ensures
    ∙ c.in-Ok-vars.ensures after_vars
    ∙ ap (λ l. noted c.result.new.findings (vars_names here (map placed_var l) after_vars)) c.as_slice-2.ensures
    ∙ c.in-Ok-result.ensures after_result
    ∙ c.in-Ok.ensures after_params
    ∙ ap (λ l. noted c.args.findings.now (params_names here (map placed_param l) after_params)) c.as_slice.ensures
