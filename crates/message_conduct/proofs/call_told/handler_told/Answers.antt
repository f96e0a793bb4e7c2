use Rattle.std.proofs.Common.{◌≡◌, ℕ, List, Option, Some, find, map, option_map, sym, ap, ◌∙◌}
use Rattle.std.specs.Borrow.{Bor}
use Rattle.syntax_tree.specs.Placed.{Process, placed, placed_decl, placed_process}
use Rattle.syntax_tree.specs.Parts.{processes}
use Rattle.syntax_tree.specs.declared.decl.Process as code
use Rattle.syntax_tree.specs.declared.place.Place.{Place}
use Rattle.message_conduct.specs.Told.{handler_sentence, is_handled_at}
use Rattle.message_conduct.proofs.call_told.handler_told.Goals as goal

abbrev seen : Option (Bor code.Process) → Option (Process Place)
seen found = option_map (λ p. placed_process p.now) found

abbrev said : Option (Process Place) → Option (List ℕ)
said found = option_map (λ p. handler_sentence p.name) found

pub returns-in_default : goal.returns-in_default
returns-in_default c =
    ap (λ o. said (seen o)) (sym c.in_default.is)
    ∙ ap said (c.handled_at.ensures ∙ ap (λ ds. find (is_handled_at c.args.place) (processes (map placed_decl ds))) (c.as_slice.ensures ∙ ap (λ p. p.decls) c.program.ensures))

pub returns : goal.returns
returns c =
    ap Some c.in_ok-sentence.ensures
    ∙ ap (λ o. said (seen o)) (sym c.in-Some.is)
    ∙ ap said (c.handled_at.ensures ∙ ap (λ ds. find (is_handled_at c.args.place) (processes (map placed_decl ds))) (c.as_slice.ensures ∙ ap (λ p. p.decls) c.program.ensures))
