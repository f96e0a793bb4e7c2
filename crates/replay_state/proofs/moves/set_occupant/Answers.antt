use Rattle.std.proofs.Common.{arith, refl, length, ◌<◌, ◌≤◌}
use Rattle.std.proofs.lemmas.Option.{slice_get_read}
use Rattle.source_semantics.specs.Config.{occupied}
use Rattle.replay_state.specs.View.{hold_of}
use Rattle.replay_state.proofs.Changes.{changed_past, set_changed}
use Rattle.replay_state.proofs.moves.set_occupant.Goals as goal

pub returns-then-mon-len : goal.returns-then-mon-len
returns-then-mon-len c =
    let xs = c.args.holds.now.items in
    let below : c.args.mon < length xs = omega (arith, c.if-mon-len.true, c.len.ensures) in
    set_changed hold_of (occupied c.args.occupant) c.args.mon xs c.index_mut.result.now _
    (slice_get_read xs (length xs) c.args.mon c.index_mut.result.now refl below c.index_mut.ensures.value) refl

pub returns-else-mon-len : goal.returns-else-mon-len
returns-else-mon-len c =
    let xs = c.args.holds.now.items in
    let past : length xs ≤ c.args.mon = omega (arith, c.if-mon-len.false, c.len.ensures) in
    changed_past hold_of (occupied c.args.occupant) c.args.mon xs past
