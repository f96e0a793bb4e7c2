use Rattle.std.proofs.Common.{◌≡◌, take}
use Rattle.std.specs.Prelude.{vec_len}
use Rattle.machine_semantics.specs.Tick.{wake_all}
use Rattle.vm_state.specs.Threads.{rooms_of, threads_of}
use Rattle.vm_state.proofs.threads.wake_each.Given as goal

abbrev pub invariant-loop-process : goal.invariant-loop-process
invariant-loop-process g l = record {
  threads : threads_of l.cells.items ≡ wake_all g.image (take l.process-index l.waiting) (threads_of l.fn.cells.items);
  rooms : rooms_of l.cells.items ≡ rooms_of l.fn.cells.items;
  len : vec_len l.cells ≡ vec_len l.fn.cells;
}

abbrev pub ghost-wake_at : goal.ghost-wake_at
ghost-wake_at g a = g.image
