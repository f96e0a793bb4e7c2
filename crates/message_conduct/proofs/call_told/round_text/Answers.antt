use Rattle.std.proofs.Common.{◌≡◌, ◌++◌, List, [], ℕ, map, unwrap_or, ap, ◌∙◌}
use Rattle.syntax_tree.specs.Plain.{Name}
use Rattle.syntax_tree.specs.Placed.{placed, placed_decl}
use Rattle.syntax_tree.specs.Parts.{routines}
use Rattle.message_conduct.specs.Sentences.{name_at}
use Rattle.message_conduct.specs.Told.{routine_name, round_sentence}
use Rattle.message_conduct.proofs.call_told.round_text.Goals as goal

pub returns : goal.returns
returns c =
    let g = placed c.args.declarations.now in
    let decls = c.as_slice-decls.ensures ∙ ap (λ p. p.decls) c.program.ensures in
    let caller : c.routine_name.result.now ≡ routine_name g c.args.place = c.routine_name.ensures ∙ ap (λ ds. unwrap_or (name_at c.args.place (routines (map placed_decl ds))) []) decls in
    let callee : c.routine_name-2.result.now ≡ routine_name g c.args.callee = c.routine_name-2.ensures ∙ ap (λ ds. unwrap_or (name_at c.args.callee (routines (map placed_decl ds))) []) decls in
    c.in_ok-add_round.ensures
    ∙ ap (λ (t : List ℕ). t ++ round_sentence c.routine_name.result.now c.routine_name-2.result.now) c.new-sentence.ensures
    ∙ ap (λ (n : Name). round_sentence n c.routine_name-2.result.now) caller
    ∙ ap (λ (n : Name). round_sentence (routine_name g c.args.place) n) callee
