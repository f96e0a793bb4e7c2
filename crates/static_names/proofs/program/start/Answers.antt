use Rattle.std.proofs.Common.{map, ap, ◌∙◌}
use Rattle.syntax_tree.specs.Placed.{placed_decl}
use Rattle.static_names.specs.declared.kind.Declared.{Declared}
use Rattle.static_names.specs.declared.kind.Kind.TheVariants.{Program}
use Rattle.static_names.specs.Occurrences.{others}
use Rattle.static_names.specs.Seen.{meaning, add, add_all}
use Rattle.static_names.proofs.Steps.{on_ok}
use Rattle.static_names.proofs.program.start.Goals as goal

pub returns-clause-names : goal.returns-clause-names
returns-clause-names c = on_ok c.others.result c.others.ensures (λ h.
    let g = c.args.program.now in
    let own : Declared = record { place = g.place; kind = Program } in
    h
    ∙ ap (λ r. add_all r (others (map placed_decl c.as_slice.result.now))) (c.in-Ok-add.ensures ∙ ap (λ n. add (meaning c.args.names.now.entries) (n, own)) c.as_bytes-2.ensures)
    ∙ ap (λ l. add_all (add (meaning c.args.names.now.entries) (g.name, own)) (others (map placed_decl l))) c.as_slice.ensures)
