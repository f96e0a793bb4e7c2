use Rattle.std.proofs.Common.{rules, sym, ◌≡◌, ap, ◌∙◌, to_z, of_z, w64, Some}
use Rattle.std.proofs.lemmas.Int.{to_z-of_z}
use Rattle.base.specs.Words.{word}
use Rattle.source_semantics.specs.Store.{place_at, read_at}
use Rattle.replay_state.specs.View.{held_of}
use Rattle.replay_calls.proofs.Elements.{element_read}
use Rattle.replay_calls.proofs.reading.read_at.Goals as goal

pub returns-in-Some : goal.returns-in-Some
returns-in-Some c =
    let ws = c.in-Many.words in
    let low_same : to_z w64 (of_z w64 ws.low) ≡ ws.low = to_z-of_z w64 ws.low (search rules) in
    let index_same : to_z w64 (of_z w64 c.args.index) ≡ c.args.index = to_z-of_z w64 c.args.index (search rules) in
    let word_same : to_z w64 (of_z w64 c.index.result.now) ≡ c.index.result.now = to_z-of_z w64 c.index.result.now (search rules) in
    let at : Some c.in-Some.at ≡ place_at ws.low ws.items.items c.args.index =
    sym c.in-Some.is ∙ c.place_at.ensures ∙ ap (λ l. place_at l c.as_slice.result.now (to_z w64 (of_z w64 c.args.index))) low_same ∙ ap (λ i. place_at ws.low c.as_slice.result.now i) index_same ∙ ap (λ l. place_at ws.low l c.args.index) c.as_slice.ensures.value in
    ap word word_same ∙ element_read ws.low ws.items.items c.args.index c.in-Some.at c.index.result.now at c.index.ensures ∙ sym (ap (λ h. read_at (held_of h) c.args.index) c.in-Many.is)
