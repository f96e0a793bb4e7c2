use Rattle.std.proofs.Common.{◌≡◌, List, ap, ◌∙◌, if◌then◌else◌}
use Rattle.syntax_tree.specs.Placed.{placed_monitor}
use Rattle.syntax_tree.specs.Parts.{same_place}
use Rattle.static_names.specs.Reach.{Reach, Site, nowhere, within, first}
use Rattle.static_names.specs.Occurrences.{Occurrence, monitor_scope, monitor_inner}
use Rattle.static_names.specs.Findings.{noted}
use Rattle.static_names.specs.Seen.{meaning, top_site}
use Rattle.static_names.proofs.Steps.{on_ok}
use Rattle.static_names.proofs.Scoping.{made-notes, made-means}
use Rattle.static_names.proofs.part.monitor_with.Goals as goal

pub returns : goal.returns
returns c = on_ok c.monitor_parts.result c.monitor_parts.ensures (λ h more.
    let r = placed_monitor c.args.monitor.now in
    let o = top_site c.args.top.now in
    let ds = monitor_scope r in
    let f = c.args.findings.now in
    let g = c.monitor.new.findings in
    let start = meaning c.args.names.now.entries in
    let last = meaning c.monitor.new.scope.entries in
    let empty : start ≡ nowhere = ap meaning c.requires in
    let here : Reach → Site = λ m. record { means = within m o.means; members = λ p. if same_place p r.place then m else o.members p } in
    let inner : Reach → List Occurrence = λ m. monitor_inner (here m) r more in
    h more
    ∙ ap (λ m. noted g (inner m)) (made-means o.means f g start last ds empty c.in-Ok.ensures)
    ∙ made-notes o.means f g start last ds empty c.in-Ok.ensures (inner (first ds)))
