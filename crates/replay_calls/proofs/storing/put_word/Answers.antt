use Rattle.std.proofs.Common.{rules, sym, ◌≡◌, ap, ◌∙◌, to_z, of_z, w64, Some, ℕ, ℤ}
use Rattle.std.specs.Prelude.{slice_set, option_map}
use Rattle.std.proofs.lemmas.Int.{to_z-of_z}
use Rattle.source_semantics.specs.Store.{place_at, stored, many}
use Rattle.replay_state.specs.View.{held_of}
use Rattle.replay_calls.proofs.storing.put_word.Goals as goal

pub returns-in-Some-place_at : goal.returns-in-Some-place_at
returns-in-Some-place_at c =
    let ws = c.in-Many.words in
    let i = c.in-Some.index in
    let k = c.in-Some-place_at.at in
    let v = c.args.value in
    let low_same : to_z w64 (of_z w64 ws.low) ≡ ws.low = to_z-of_z w64 ws.low (search rules) in
    let index_same : to_z w64 (of_z w64 i) ≡ i = to_z-of_z w64 i (search rules) in
    let value_same : to_z w64 (of_z w64 v) ≡ v = to_z-of_z w64 v (search rules) in
    let at : place_at ws.low ws.items.items i ≡ Some k =
    sym (sym c.in-Some-place_at.is ∙ c.place_at.ensures ∙ ap (λ l. place_at l c.as_slice.result.now (to_z w64 (of_z w64 i))) low_same ∙ ap (λ j. place_at ws.low c.as_slice.result.now j) index_same ∙ ap (λ l. place_at ws.low l i) c.as_slice.ensures.value) in
    ap (λ h. stored (held_of h) c.args.index v) c.in-Many.is ∙ ap (λ o. stored (many ws.low ws.items.items) o v) c.in-Some.is ∙ ap (λ o. option_map (λ (n : ℕ). many ws.low (slice_set ws.items.items n v)) o) at
    ∙ ap (λ (x : ℤ). Some (many ws.low (slice_set ws.items.items k x))) (sym value_same)
