use Rattle.std.proofs.Common.{List, [], ◌∷◌, map, ap, ◌∙◌}
use Rattle.syntax_tree.specs.Placed.{placed_activation, placed_var, placed_routine, placed_stmts, placed_handler, optional}
use Rattle.static_names.specs.Reach.{Site}
use Rattle.static_names.specs.Occurrences.{Occurrence, closes, activation_names, vars_names, routines_names, stmts_names, optional_names, handler_names}
use Rattle.static_names.specs.Findings.{noted}
use Rattle.static_names.specs.Seen.{outer_site, site}
use Rattle.static_names.proofs.part.process_parts.Goals as goal

pub returns : goal.returns
returns c more =
    let p = c.args.process.now in
    let here = outer_site c.args.around.now.outer in
    let inner : Site = site c.args.around.now [] in
    let after_handler = closes p.close p.close_place p.name ∷ more in
    let after_body : Site → List Occurrence = λ w. optional_names (handler_names w) (optional placed_handler p.handler) after_handler in
    let after_routines : Site → List Occurrence = λ w. stmts_names w (placed_stmts p.body) (after_body w) in
    let after_vars : Site → List Occurrence = λ w. routines_names here (map placed_routine p.routines) (after_routines w) in
    let after_activation : Site → List Occurrence = λ w. vars_names w (map placed_var p.vars) (after_vars w) in
    ap (λ f. noted f more) c.close.ensures
    ∙ c.in-Ok-handler.ensures after_handler
    ∙ c.in-Ok-body.ensures (after_body inner)
    ∙ ap (λ l. noted c.routines.new.findings (stmts_names inner (placed_stmts l) (after_body inner))) c.as_slice-3.ensures
    ∙ c.in-Ok-routines.ensures (after_routines inner)
    ∙ ap (λ l. noted c.vars.new.findings (routines_names here (map placed_routine l) (after_routines inner))) c.as_slice-2.ensures
    ∙ c.in-Ok-vars.ensures (after_vars inner)
    ∙ ap (λ l. noted c.activation.new.findings (vars_names inner (map placed_var l) (after_vars inner))) c.as_slice.ensures
    ∙ c.in-Ok.ensures (after_activation inner)
    ∙ ap (λ w. noted c.args.findings.now (activation_names w (placed_activation p.activation) (after_activation w))) c.requires
