use Rattle.std.proofs.Common.{◌≡◌, map, take}
use Rattle.machine_semantics.specs.State.{zeros}
use Rattle.vm_state.specs.Board.{rows_of}
use Rattle.vm_state.proofs.machine_state.zero_rows.Given as goal

abbrev pub invariant-loop-process : goal.invariant-loop-process
invariant-loop-process l = rows_of l.rows.items ≡ map (λ p. zeros p.words) (take l.process-index l.processes)
