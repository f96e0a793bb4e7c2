use Rattle.std.proofs.Common.{◌≡◌, ◌++◌, map, option_map, Some, sym, ap, ◌∙◌}
use Rattle.syntax_tree.specs.Placed.{placed, placed_decl}
use Rattle.syntax_tree.specs.Parts.{routines}
use Rattle.message_conduct.specs.Sentences.{sentence}
use Rattle.message_conduct.specs.Conduct.{conduct_sentence}
use Rattle.message_conduct.specs.Seen.{fault, seen}
use Rattle.message_conduct.proofs.told.conduct_sentence.Goals as goal

pub returns-in_default : goal.returns-in_default
unfolding conduct_sentence
returns-in_default c =
    let say = sentence (routines (placed c.args.declarations.now).decls) in
    ap (λ s. option_map say (seen s)) (sym c.in_default.is) ∙ ap (option_map say) c.first_stray.ensures

pub returns : goal.returns
unfolding conduct_sentence
returns c =
    let say = sentence (routines (placed c.args.declarations.now).decls) in
    let said : c.add_sentence.new.text ≡ say (fault c.in-Some.stray) =
    c.in_ok-add_sentence.ensures ∙ ap (λ t. t ++ sentence (routines (map placed_decl c.as_slice.result.now)) (fault c.in-Some.stray)) c.new-sentence.ensures
    ∙ ap (λ ds. sentence (routines (map placed_decl ds)) (fault c.in-Some.stray)) (c.as_slice.ensures ∙ ap (λ p. p.decls) c.program.ensures) in
    ap Some said ∙ ap (λ s. option_map say (seen s)) (sym c.in-Some.is) ∙ ap (option_map say) c.first_stray.ensures
