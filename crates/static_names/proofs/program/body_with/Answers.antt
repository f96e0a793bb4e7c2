use Rattle.std.proofs.Common.{◌≡◌, [], ◌∷◌, map, ap, sym, ◌∙◌}
use Rattle.syntax_tree.specs.Placed.{placed, placed_decl}
use Rattle.static_names.specs.Reach.{Names, first}
use Rattle.static_names.specs.Occurrences.{others, program_name}
use Rattle.static_names.specs.Findings.{noted}
use Rattle.static_names.specs.Seen.{meaning, entry_meaning, add, add_all, decls_after}
use Rattle.static_names.proofs.Steps.{on_ok}
use Rattle.static_names.proofs.Programs.{decls-after}
use Rattle.static_names.proofs.program.body_with.Goals as goal

pub returns : goal.returns
returns c = on_ok c.decls.result c.decls.ensures (λ h more.
    let g = placed c.args.program.now in
    let f = c.args.findings.now in
    let own : Names = program_name g ∷ [] in
    let members = entry_meaning c.args.entries.now.entries in
    let earlier = meaning c.start.new.seen.entries in
    let seen : earlier ≡ first own = c.in-Ok.ensures.seen ∙ ap (λ es. add (meaning es) (program_name g)) c.requires.seen in
    let named : meaning c.start.new.names.entries ≡ add_all earlier (others (map placed_decl c.as_slice.result.now)) =
    c.in-Ok.ensures.names
    ∙ ap (λ es. add_all (add (meaning es) (program_name g)) (others g.decls)) c.requires.names
    ∙ ap (λ r. add_all r (others g.decls)) (sym seen)
    ∙ ap (λ l. add_all earlier (others (map placed_decl l))) (sym c.as_slice.ensures) in
    (h named).notes more
    ∙ ap (λ s. noted f (decls_after members s (map placed_decl c.as_slice.result.now) more)) seen
    ∙ ap (λ l. noted f (decls_after members (first own) (map placed_decl l) more)) c.as_slice.ensures
    ∙ ap (noted f) (decls-after members own g.decls more))
