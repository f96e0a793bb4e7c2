use Rattle.std.proofs.Common.{◌≡◌, []}
use Rattle.std.specs.Prelude.{replicate}
use Rattle.vm_state.specs.Queues.{HaveRoom, rows_of}
use Rattle.vm_state.proofs.queues.empty_rows.Given as goal

abbrev pub invariant-loop : goal.invariant-loop
invariant-loop l = (rows_of l.rows.items ≡ replicate l.counter []) × HaveRoom l.rows.items
