use Rattle.std.proofs.Common.{◌≡◌, List, ap, ◌∙◌}
use Rattle.syntax_tree.specs.Placed.{placed_process}
use Rattle.static_names.specs.Reach.{Reach, nowhere, within, first}
use Rattle.static_names.specs.Occurrences.{Occurrence, process_scope, process_inner}
use Rattle.static_names.specs.Findings.{noted}
use Rattle.static_names.specs.Seen.{meaning, top_site}
use Rattle.static_names.proofs.Steps.{on_ok}
use Rattle.static_names.proofs.Scoping.{made-notes, made-means}
use Rattle.static_names.proofs.part.process_with.Goals as goal

pub returns : goal.returns
returns c = on_ok c.process_parts.result c.process_parts.ensures (λ h more.
    let r = placed_process c.args.process.now in
    let o = top_site c.args.top.now in
    let ds = process_scope r in
    let f = c.args.findings.now in
    let g = c.process.new.findings in
    let start = meaning c.args.names.now.entries in
    let last = meaning c.process.new.scope.entries in
    let empty : start ≡ nowhere = ap meaning c.requires in
    let inner : Reach → List Occurrence = λ m. process_inner (record { means = within m o.means; members = o.members }) r more in
    h more
    ∙ ap (λ m. noted g (inner m)) (made-means o.means f g start last ds empty c.in-Ok.ensures)
    ∙ made-notes o.means f g start last ds empty c.in-Ok.ensures (inner (first ds)))
