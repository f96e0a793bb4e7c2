use Rattle.std.proofs.Common.{◌≡◌, [], ◌∷◌, map, ap, ◌∙◌}
use Rattle.syntax_tree.specs.Placed.{placed, placed_decl}
use Rattle.static_names.specs.Reach.{nowhere, first}
use Rattle.static_names.specs.Occurrences.{entries_at, program_name, decls_names}
use Rattle.static_names.specs.Findings.{noted}
use Rattle.static_names.specs.Seen.{entry_meaning, add_monitors}
use Rattle.static_names.proofs.Steps.{on_ok}
use Rattle.static_names.proofs.Programs.{members-are}
use Rattle.static_names.proofs.program.whole.Goals as goal

pub returns : goal.returns
returns c = on_ok c.body.result c.body.ensures (λ h more.
    let g = placed c.args.program.now in
    let entries : entry_meaning c.monitors.new.all.entries ≡ (λ place. first (entries_at g.decls place)) =
    c.in-Ok.ensures
    ∙ ap (λ es. add_monitors (entry_meaning es) (map placed_decl c.as_slice.result.now)) c.new-entries.ensures.empty
    ∙ ap (λ l. add_monitors (λ p. nowhere) (map placed_decl l)) c.as_slice.ensures
    ∙ members-are g.decls in
    h more ∙ ap (λ e. noted c.args.findings.now (decls_names e (program_name g ∷ []) g.decls more)) entries)
