use Rattle.vm_state.specs.Threads.{threads_of}
use Rattle.edf_machine.proofs.Marking.{Noting}
use Rattle.edf_machine.proofs.marks.note_idle.Given as goal

abbrev pub invariant-loop-place : goal.invariant-loop-place
invariant-loop-place l = Noting l.fn.marks.items l.marks.items (threads_of l.board.cells.items) l.place
