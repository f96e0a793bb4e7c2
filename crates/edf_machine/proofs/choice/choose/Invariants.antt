use Rattle.std.proofs.Common.{◌≡◌, ◌≤◌, List, drop, length}
use Rattle.machine_semantics.specs.Image.{Image}
use Rattle.vm_state.specs.Board.{IsBoardOf}
use Rattle.vm_state.specs.Plan.{IsOf}
use Rattle.vm_state.specs.Threads.{threads_of}
use Rattle.edf_semantics.specs.Choice.{Mark}
use Rattle.edf_machine.specs.Marks.{AreMarks}
use Rattle.edf_machine.specs.Sights.{seen_from, seen_of}
use Rattle.edf_machine.proofs.choice.choose.Given as goal

abbrev pub invariant-all : goal.invariant-all
invariant-all l = record {
  within : l.place ≤ length l.marks;
  seen : (image : Image) (ms : List Mark) → IsOf image l.plan → IsBoardOf image l.board → AreMarks image l.marks ms
      → seen_of l.sight ≡ seen_from image l.place (drop l.place image.processes) (drop l.place (threads_of l.board.cells.items)) (drop l.place ms);
}

abbrev pub decreases-all : goal.decreases-all
decreases-all l = l.place
