-- One more row.
use Rattle.std.proofs.Common.{◌≡◌, ◌+◌, [], List, ℕ, subst, sym}
use Rattle.std.specs.Prelude.{replicate}
use Rattle.std.specs.Global.{Vec}
use Rattle.vm_state.specs.Queues.{HaveRoom, rows_of}
use Rattle.vm_state.proofs.Rows.{rows_more, room_more}
use Rattle.vm_state.proofs.queues.empty_rows.Goals as goal

pub loop-preserved : goal.loop-preserved
loop-preserved c =
    subst (λ (vs : List (Vec ℕ)). (rows_of vs ≡ replicate (c.loop.counter + 1) []) × HaveRoom vs) (sym c.in_ok-push.ensures.items) (
      rows_more c.loop.counter c.loop.rows.items c.in_ok-with_capacity.field-0 c.loop.invariant.0 c.in_ok-with_capacity.ensures.items,
      room_more c.loop.rows.items c.in_ok-with_capacity.field-0 c.loop.invariant.1 c.in_ok-with_capacity.ensures.capacity,
    )
