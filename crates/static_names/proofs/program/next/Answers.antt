use Rattle.std.proofs.Common.{◌≡◌, List, ◌∷◌, is_some, ap, sym, ◌∙◌}
use Rattle.syntax_tree.specs.Placed.{placed_decl}
use Rattle.static_names.specs.Reach.{Reach, Site}
use Rattle.static_names.specs.Occurrences.{Occurrence, decl_name, others, inner_names}
use Rattle.static_names.specs.Findings.{note_declaration, noted}
use Rattle.static_names.specs.Seen.{meaning, entry_meaning, add, add_all, decls_after}
use Rattle.static_names.proofs.Steps.{on_ok}
use Rattle.static_names.proofs.program.next.Goals as goal

pub add_unless-requires : goal.add_unless-requires
add_unless-requires c = c.is_some-taken.ensures ∙ ap is_some c.find.ensures ∙ ap (λ n. is_some (meaning c.args.seen.now.entries n)) (c.name_of.ensures ∙ sym c.name_of-2.ensures)

pub returns : goal.returns
returns c = on_ok c.add_unless.result c.add_unless.ensures (λ k rest h.
    let d = placed_decl c.args.one.now in
    let s = meaning c.args.seen.now.entries in
    let e = entry_meaning c.args.entries.now.entries in
    let seen : meaning c.add_unless.new.scope.entries ≡ add s (decl_name d) =
    k ∙ (λ i. add s (c.name_of-2.ensures i, record { place = c.place_of.ensures i; kind = c.kind_of.ensures i })) in
    let taken : c.is_some-taken.result ≡ is_some (s (decl_name d).0) = c.is_some-taken.ensures ∙ ap is_some c.find.ensures ∙ ap (λ n. is_some (s n)) c.name_of.ensures in
    let here : Reach → Site = λ r. record { means = r; members = e } in
    record {
      notes = λ more.
          let parts : List Occurrence = inner_names (here (add_all s (others (d ∷ rest)))) d (decls_after e (add s (decl_name d)) rest more) in
          c.in-Ok.ensures (decls_after e (meaning c.add_unless.new.scope.entries) rest more)
          ∙ ap (λ t. noted c.declare.new.self (inner_names (here (meaning c.args.program.now.entries)) d (decls_after e t rest more))) seen
          ∙ ap (λ r. noted c.declare.new.self (inner_names (here r) d (decls_after e (add s (decl_name d)) rest more))) h
          ∙ ap (λ f. noted f parts) c.declare.ensures
          ∙ ap (λ p. noted (note_declaration c.args.findings.now p c.is_some-taken.result) parts) c.place_of.ensures
          ∙ ap (λ b. noted (note_declaration c.args.findings.now (decl_name d).1.place b) parts) taken;
      scope = c.in-Ok-reveal.ensures c.args.seen.now.entries rest taken h ∙ ap (λ t. add_all t (others rest)) (sym seen);
    })
