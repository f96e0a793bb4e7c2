use Rattle.std.proofs.Common.{◌≡◌, map, take}
use Rattle.vm_state.specs.Threads.{rooms_of, threads_of}
use Rattle.machine_semantics.specs.State.{Idle}
use Rattle.vm_state.proofs.machine_state.idle_cells.Given as goal

abbrev pub invariant-loop-process : goal.invariant-loop-process
invariant-loop-process l = record {
  idle : threads_of l.cells.items ≡ map (λ p. Idle) (take l.process-index l.processes);
  rooms : rooms_of l.cells.items ≡ map (λ p. p.stack) (take l.process-index l.processes);
}
