use Rattle.std.proofs.Common.{arith, refl, length, ◌<◌, ◌≤◌, [], List, ℕ}
use Rattle.std.specs.Global.{Vec}
use Rattle.std.proofs.lemmas.Option.{slice_get_read}
use Rattle.replay_state.proofs.Changes.{changed_past, set_changed}
use Rattle.replay_state.proofs.queues.drop_all.Goals as goal

pub returns-then-condition-len : goal.returns-then-condition-len
returns-then-condition-len c =
    let xs = c.args.queues.now.items in
    let below : c.args.condition < length xs = omega (arith, c.if-condition-len.true, c.len.ensures) in
    set_changed (λ (q : Vec ℕ). q.items) (λ (q : List ℕ). []) c.args.condition xs c.index_mut.result.now _
    (slice_get_read xs (length xs) c.args.condition c.index_mut.result.now refl below c.index_mut.ensures.value) c.clear.ensures.items

pub returns-else-condition-len : goal.returns-else-condition-len
returns-else-condition-len c =
    let xs = c.args.queues.now.items in
    let past : length xs ≤ c.args.condition = omega (arith, c.if-condition-len.false, c.len.ensures) in
    changed_past (λ (q : Vec ℕ). q.items) (λ (q : List ℕ). []) c.args.condition xs past
