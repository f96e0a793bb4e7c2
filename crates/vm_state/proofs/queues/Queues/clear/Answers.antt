-- A row is its queue.
use Rattle.std.proofs.Common.{List, ℕ, [], arith, ap, ◌∙◌, length}
use Rattle.std.specs.Prelude.{slice_set}
use Rattle.vm_state.specs.Queues.{rows_of}
use Rattle.vm_state.proofs.Rows.{length-rows, rows_set, room_set, room_at}
use Rattle.vm_state.proofs.queues.Queues.clear.Goals as goal

pub returns : goal.returns
returns c =
    rows_set c.self.inside.rows.items c.args.condition c.clear.new.self
    ∙ ap (λ (xs : List ℕ). slice_set (rows_of c.self.inside.rows.items) c.args.condition xs) c.clear.ensures.items
    ∙ ap (λ (xs : List (List ℕ)). slice_set xs c.args.condition []) c.self.view_is

pub invariant_of-self : goal.invariant_of-self
invariant_of-self c = room_set c.self.inside.rows.items c.args.condition c.clear.new.self c.self.invariant (let room = (room_at c.self.inside.rows.items c.args.condition c.index_mut-row.result.now c.self.invariant (let e = c.self.view_is in let n = length-rows c.self.inside.rows.items in let m = ap (λ (xs : List (List ℕ)). length xs) e in omega (arith, n, m, c.requires)) c.index_mut-row.ensures.value) in omega (arith, room, c.clear.ensures.capacity))
