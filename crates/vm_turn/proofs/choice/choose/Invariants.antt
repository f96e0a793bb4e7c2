use Rattle.std.proofs.Common.{◌≡◌, drop}
use Rattle.vm_stretch.specs.Pick.{entry_of, foremost_from, joined}
use Rattle.machine_semantics.specs.Image.{Image}
use Rattle.vm_state.specs.Threads.{threads_of}
use Rattle.vm_state.specs.Plan.{IsOf}
use Rattle.vm_turn.proofs.Choosing.{standings}
use Rattle.vm_turn.proofs.choice.choose.Given as goal

abbrev pub invariant-loop-k : goal.invariant-loop-k
invariant-loop-k l = (image : Image) → IsOf image l.plan → foremost_from 0 (standings image image.processes (threads_of l.board.cells.items)) ≡ joined (entry_of l.best) (foremost_from l.k (drop l.k (standings image image.processes (threads_of l.board.cells.items))))
