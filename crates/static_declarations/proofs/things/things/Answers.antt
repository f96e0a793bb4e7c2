use Rattle.std.proofs.Common.{◌∙◌, ap, map, [], ◌∷◌}
use Rattle.syntax_tree.specs.Placed.{placed_decl}
use Rattle.static_declarations.specs.Things.{learn, decls_things, other_thing}
use Rattle.static_declarations.specs.Seen.{known_things, nothing}
use Rattle.static_declarations.proofs.things.things.Goals as goal

pub returns : goal.returns
returns c =
    let own = (c.args.program.now.place, other_thing) ∷ [] in
    c.in_ok-keep.ensures [] ∙ c.in_ok-decls.ensures own
    ∙ ap (λ entries. learn (known_things entries) (decls_things (map placed_decl c.as_slice.result.now) own)) c.in_ok-things.ensures.empty
    ∙ ap (λ items. learn nothing (decls_things (map placed_decl items) own)) c.as_slice.ensures
