use Rattle.std.proofs.Common.{◌≡◌, List, ap, ◌∙◌}
use Rattle.syntax_tree.specs.Placed.{placed_routine}
use Rattle.static_names.specs.Reach.{Reach, nowhere, within, first}
use Rattle.static_names.specs.Occurrences.{Occurrence, routine_scope, routine_inner}
use Rattle.static_names.specs.Findings.{noted}
use Rattle.static_names.specs.Seen.{meaning, outer_site}
use Rattle.static_names.proofs.Steps.{on_ok}
use Rattle.static_names.proofs.Scoping.{made-notes, made-means}
use Rattle.static_names.proofs.part.routine_with.Goals as goal

pub returns : goal.returns
returns c = on_ok c.routine_parts.result c.routine_parts.ensures (λ h more.
    let r = placed_routine c.args.routine.now in
    let o = outer_site c.args.outer.now in
    let ds = routine_scope r in
    let f = c.args.findings.now in
    let g = c.routine.new.findings in
    let start = meaning c.args.locals.now.entries in
    let last = meaning c.routine.new.scope.entries in
    let empty : start ≡ nowhere = ap meaning c.requires in
    let inner : Reach → List Occurrence = λ m. routine_inner (record { means = within m o.means; members = o.members }) r more in
    h more
    ∙ ap (λ m. noted g (inner m)) (made-means o.means f g start last ds empty c.in-Ok.ensures)
    ∙ made-notes o.means f g start last ds empty c.in-Ok.ensures (inner (first ds)))
