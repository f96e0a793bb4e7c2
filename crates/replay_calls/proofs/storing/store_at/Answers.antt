use Rattle.std.proofs.Common.{rules, refl, ◌≡◌, Some, arith, length, subst, to_z, of_z, w64}
use Rattle.std.specs.Prelude.{slice_get}
use Rattle.std.proofs.lemmas.Int.{to_z-of_z}
use Rattle.std.proofs.lemmas.Option.{slice_get_read}
use Rattle.base.proofs.Lists.{map_get}
use Rattle.replay_state.specs.View.{slot_of, vars_of}
use Rattle.replay_calls.specs.Stores.{IsTried, put_slot}
use Rattle.replay_calls.proofs.Placing.{mapped_set, stored_at}
use Rattle.replay_calls.proofs.storing.store_at.Goals as goal

pub returns : goal.returns
returns c = λ x named over.
    let v = c.args.value in
    let items = c.args.slots.now.items in
    let s = c.index_mut.result.now in
    let t = c.put_slot_word.new.slot in
    let value_same : to_z w64 (of_z w64 v) ≡ v = to_z-of_z w64 v (search rules) in
    let got : slice_get items c.args.at ≡ Some s = slice_get_read items (length items) c.args.at s refl (omega (arith, c.requires, c.args.slots.now.ok.0)) c.index_mut.ensures.value in
    stored_at x c.args.index v (vars_of items) _ c.args.at (slot_of s) (slot_of t) c.put_slot_word.result named over (map_get slot_of items c.args.at s got)
    (mapped_set slot_of items c.args.at t)
    (subst (λ w. IsTried (put_slot c.args.index w (slot_of s)) (slot_of s) c.put_slot_word.result (slot_of t)) value_same c.put_slot_word.ensures)
