use Rattle.std.proofs.Common.{ℕ, suc, ◌≡◌, ap, ◌∙◌, sym, subst, arith, drop, length, ◌∷◌, ◌+◌, ◌<◌, get_or, List}
use Rattle.std.specs.Prelude.{option_map, bytes_eq, false, true, Some, None, []}
use Rattle.std.proofs.lemmas.Grind.{common_steps}
use Rattle.source_semantics.specs.Store.{slot_named}
use Rattle.replay_state.specs.View.{vars_of, slot_of}
use Rattle.replay_calls.specs.Places.{IsPlace}
use Rattle.replay_state.specs.declared.variables.Slot.{Slot}
use Rattle.replay_calls.proofs.Spots.{place_here, place_next, place_on}
use Rattle.replay_calls.proofs.slots.place_named.Goals as goal

rest : (slots : List Slot) (at : ℕ) (s : Slot) → at < length slots → s ≡ get_or slots at s → drop at slots ≡ s ∷ drop (at + 1) slots
rest slots at s below is = grind (arith, common_steps)

pub returns-then-equal : goal.returns-then-equal
returns-then-equal c =
    let name = c.args.name.now in
    let slots = c.args.slots.now in
    let at = c.loop-at.at in
    let s = c.index-slots-at.result in
    let split : drop at slots ≡ s ∷ drop (at + 1) slots = rest slots at s c.loop-at-test.true c.index-slots-at.is in
    let same : bytes_eq s.name.now name ≡ true = ap (λ (x : Slot). bytes_eq x.name.now name) c.index-slots-at.is ∙ (sym c.equal.ensures ∙ c.if-equal.true) in
    let here : IsPlace name (vars_of (drop at slots)) (Some 0) = subst (λ l. IsPlace name (vars_of l) (Some 0)) (sym split) (place_here name (slot_of s) (vars_of (drop (at + 1) slots)) same) in
    let zero_more : at + 0 ≡ at = omega arith in
    subst (λ k. IsPlace name (vars_of slots) (Some k)) zero_more (c.loop-at.invariant (Some 0) here)

pub loop-at-preserved : goal.loop-at-preserved
loop-at-preserved c = λ o h.
    let name = c.args.name.now in
    let slots = c.args.slots.now in
    let at = c.loop-at.at in
    let s = c.index-slots-at.result in
    let split : drop at slots ≡ s ∷ drop (at + 1) slots = rest slots at s c.loop-at-test.true c.index-slots-at.is in
    let other : bytes_eq s.name.now name ≡ false = ap (λ (x : Slot). bytes_eq x.name.now name) c.index-slots-at.is ∙ (sym c.equal.ensures ∙ c.if-equal.false) in
    let next : IsPlace name (vars_of (drop at slots)) (option_map suc o) = subst (λ l. IsPlace name (vars_of l) (option_map suc o)) (sym split) (place_next name (slot_of s) (vars_of (drop (at + 1) slots)) o other h) in
    place_on name (vars_of slots) at o (c.loop-at.invariant (option_map suc o) next)

pub returns : goal.returns
returns c =
    let past : drop c.loop-at.at c.args.slots.now ≡ [] = grind (arith, common_steps, c.loop-at-test.false) in
    c.loop-at.invariant None (ap (λ l. slot_named c.args.name.now (vars_of l)) past)
