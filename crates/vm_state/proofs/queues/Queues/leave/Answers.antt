-- A row is its queue.
use Rattle.std.proofs.Common.{List, ℕ, arith, ap, sym, ◌∙◌, length}
use Rattle.std.specs.Prelude.{slice_set}
use Rattle.machine_semantics.specs.Starts.{queue_of, without}
use Rattle.vm_state.specs.Queues.{rows_of}
use Rattle.vm_state.proofs.Rows.{length-rows, row_is, rows_set, room_set, room_at}
use Rattle.vm_state.proofs.queues.Queues.leave.Goals as goal

pub returns : goal.returns
returns c =
    rows_set c.self.inside.rows.items c.args.condition c.leave_row.new.row
    ∙ ap (λ (xs : List ℕ). slice_set (rows_of c.self.inside.rows.items) c.args.condition xs) (c.leave_row.ensures.rest ∙ ap (λ (xs : List ℕ). without c.args.process xs) (sym (ap (λ (xs : List (List ℕ)). queue_of xs c.args.condition) (sym c.self.view_is) ∙ row_is c.self.inside.rows.items c.args.condition c.index_mut.result.now (let e = c.self.view_is in let n = length-rows c.self.inside.rows.items in let m = ap (λ (xs : List (List ℕ)). length xs) e in omega (arith, n, m, c.requires)) c.index_mut.ensures.value)))
    ∙ ap (λ (xs : List (List ℕ)). slice_set xs c.args.condition (without c.args.process (queue_of c.args.self.now c.args.condition))) c.self.view_is

pub invariant_of-self : goal.invariant_of-self
invariant_of-self c = room_set c.self.inside.rows.items c.args.condition c.leave_row.new.row c.self.invariant (let room = (room_at c.self.inside.rows.items c.args.condition c.index_mut.result.now c.self.invariant (let e = c.self.view_is in let n = length-rows c.self.inside.rows.items in let m = ap (λ (xs : List (List ℕ)). length xs) e in omega (arith, n, m, c.requires)) c.index_mut.ensures.value) in omega (arith, room, c.leave_row.ensures.room))
