-- A row is its queue.
use Rattle.std.proofs.Common.{List, ℕ, arith, ap, sym, ◌∙◌, length}
use Rattle.machine_semantics.specs.Starts.{queue_of}
use Rattle.vm_state.proofs.Rows.{length-rows, row_is}
use Rattle.vm_state.proofs.queues.Queues.waiting.Goals as goal

pub returns : goal.returns
returns c = c.as_slice.ensures.value ∙ sym (ap (λ (xs : List (List ℕ)). queue_of xs c.args.condition) (sym c.self.view_is) ∙ row_is c.self.inside.rows.items c.args.condition c.index.result.now (let e = c.self.view_is in let n = length-rows c.self.inside.rows.items in let m = ap (λ (xs : List (List ℕ)). length xs) e in omega (arith, n, m, c.requires)) c.index.ensures)
