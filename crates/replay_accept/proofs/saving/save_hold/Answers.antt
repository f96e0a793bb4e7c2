use Rattle.std.proofs.Common.{arith, refl, length, ◌<◌, ◌≤◌}
use Rattle.std.proofs.lemmas.Option.{slice_get_read}
use Rattle.source_semantics.specs.Config.{Hold}
use Rattle.replay_state.specs.View.{hold_of, vars_of}
use Rattle.replay_state.proofs.Changes.{changed_past, set_changed}
use Rattle.replay_accept.proofs.saving.save_hold.Goals as goal

pub returns-then-mon-len : goal.returns-then-mon-len
returns-then-mon-len c =
    let xs = c.args.holds.now.items in
    let x = c.index_mut.result.now in
    let below : c.args.mon < length xs = omega (arith, c.if-mon-len.true, c.len.ensures) in
    set_changed hold_of (λ (h : Hold). record { vars = vars_of c.args.vars.items; occupant = h.occupant }) c.args.mon xs x _
    (slice_get_read xs (length xs) c.args.mon x refl below c.index_mut.ensures.value)
    refl

pub returns-else-mon-len : goal.returns-else-mon-len
returns-else-mon-len c =
    let xs = c.args.holds.now.items in
    let past : length xs ≤ c.args.mon = omega (arith, c.if-mon-len.false, c.len.ensures) in
    changed_past hold_of (λ (h : Hold). record { vars = vars_of c.args.vars.items; occupant = h.occupant }) c.args.mon xs past
