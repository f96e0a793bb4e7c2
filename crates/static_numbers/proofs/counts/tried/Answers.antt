use Rattle.std.proofs.Common.{◌≡◌, List, [], ◌∷◌, map, refl, ap, ◌∙◌}
use Rattle.syntax_tree.specs.Placed.{placed}
use Rattle.syntax_tree.specs.declared.place.Place.{Place}
use Rattle.syntax_tree.specs.Parts.{processes}
use Rattle.static_numbers.specs.Counts.{at_none, one_too_many}
use Rattle.static_numbers.proofs.Walks.{then}
use Rattle.static_numbers.proofs.counts.tried.Goals as goal

none-map : {X Y : Type 0} (place : Place) (f : X → Y) (xs : List X) → at_none place (map f xs) ≡ at_none place xs
none-map place f [] = refl
none-map place f (x ∷ xs) = refl

pub returns : goal.returns
returns c is =
    let g = placed c.args.declarations.now in
    let seen = c.places.view_is ∙ is in
    let no = c.at_none.ensures ∙ ap (λ q. at_none q.place c.as_slice-processes.result.now) c.program-program.ensures
    ∙ ap (at_none g.place) (c.as_slice-processes.ensures.value ∙ ap (λ p. p.processes) seen) ∙ none-map g.place (λ p. p.place) (processes g.decls) in
    let many-processes = c.one_too_many.ensures ∙ ap (one_too_many 64) (c.as_slice-processes.ensures.value ∙ ap (λ p. p.processes) seen) in
    let many-monitors = c.one_too_many-2.ensures ∙ ap (one_too_many 64) (c.as_slice-monitors.ensures.value ∙ ap (λ p. p.monitors) seen) in
    let many-devices = c.one_too_many-3.ensures ∙ ap (one_too_many 64) (c.as_slice-devices.ensures.value ∙ ap (λ p. p.devices) seen) in
    let many-events = c.one_too_many-4.ensures ∙ ap (one_too_many 64) (c.as_slice-events.ensures.value ∙ ap (λ p. p.events) seen) in
    let many-conditions = c.one_too_many-5.ensures ∙ ap (one_too_many 256) (c.as_slice-conditions.ensures.value ∙ ap (λ p. p.conditions) seen) in
    let many-routines = c.one_too_many-6.ensures ∙ ap (one_too_many 512) (c.as_slice-routines.ensures.value ∙ ap (λ p. p.routines) seen) in
    then 43 _ _ _ _ _ c.blame-8.ensures
    (then 42 _ _ _ _ _ c.blame-7.ensures
    (then 41 _ _ _ _ _ c.blame-6.ensures
    (then 40 _ _ _ _ _ c.blame-5.ensures
    (then 40 _ _ _ _ _ c.blame-4.ensures
    (then 40 _ _ _ _ _ c.blame-3.ensures
    (then 40 _ _ _ _ _ c.blame-2.ensures
    (then 40 _ _ _ _ _ c.blame.ensures refl no)
    many-processes) many-monitors) many-devices) many-events) many-conditions) many-routines) c.too_many_words.ensures
