-- A row is its queue.
use Rattle.std.proofs.Common.{◌++◌, List, ℕ, [], ◌∷◌, arith, ap, sym, ◌∙◌, length}
use Rattle.std.specs.Prelude.{slice_set}
use Rattle.machine_semantics.specs.Starts.{queue_of}
use Rattle.vm_state.specs.Queues.{rows_of}
use Rattle.vm_state.proofs.Rows.{length-rows, row_is, rows_set, room_set, room_at}
use Rattle.vm_state.proofs.queues.Queues.join.Goals as goal

pub push_reserved-requires : goal.push_reserved-requires
push_reserved-requires c =
    let is = (ap (λ (xs : List (List ℕ)). queue_of xs c.args.condition) (sym c.self.view_is) ∙ row_is c.self.inside.rows.items c.args.condition c.index_mut-row.result.now (let e = c.self.view_is in let n = length-rows c.self.inside.rows.items in let m = ap (λ (xs : List (List ℕ)). length xs) e in omega (arith, n, m, c.requires.there)) c.index_mut-row.ensures.value) in
    let count = ap (λ (xs : List ℕ). length xs) is in
    let room = (room_at c.self.inside.rows.items c.args.condition c.index_mut-row.result.now c.self.invariant (let e = c.self.view_is in let n = length-rows c.self.inside.rows.items in let m = ap (λ (xs : List (List ℕ)). length xs) e in omega (arith, n, m, c.requires.there)) c.index_mut-row.ensures.value) in
    omega (arith, count, room, c.requires.room)

pub invariant_of-self : goal.invariant_of-self
invariant_of-self c = room_set c.self.inside.rows.items c.args.condition c.push_reserved.new.self c.self.invariant (let room = (room_at c.self.inside.rows.items c.args.condition c.index_mut-row.result.now c.self.invariant (let e = c.self.view_is in let n = length-rows c.self.inside.rows.items in let m = ap (λ (xs : List (List ℕ)). length xs) e in omega (arith, n, m, c.requires.there)) c.index_mut-row.ensures.value) in omega (arith, room, c.push_reserved.ensures.capacity))

pub returns : goal.returns
returns c =
    rows_set c.self.inside.rows.items c.args.condition c.push_reserved.new.self
    ∙ ap (λ (xs : List ℕ). slice_set (rows_of c.self.inside.rows.items) c.args.condition xs) (c.push_reserved.ensures.items ∙ ap (λ (xs : List ℕ). xs ++ c.args.process ∷ []) (sym (ap (λ (xs : List (List ℕ)). queue_of xs c.args.condition) (sym c.self.view_is) ∙ row_is c.self.inside.rows.items c.args.condition c.index_mut-row.result.now (let e = c.self.view_is in let n = length-rows c.self.inside.rows.items in let m = ap (λ (xs : List (List ℕ)). length xs) e in omega (arith, n, m, c.requires.there)) c.index_mut-row.ensures.value)))
    ∙ ap (λ (xs : List (List ℕ)). slice_set xs c.args.condition (queue_of c.args.self.now c.args.condition ++ c.args.process ∷ [])) c.self.view_is
