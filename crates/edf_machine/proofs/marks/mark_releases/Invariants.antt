use Rattle.std.proofs.Common.{◌≡◌, List, length}
use Rattle.machine_semantics.specs.Image.{Image}
use Rattle.machine_semantics.specs.State.{Thread}
use Rattle.vm_state.specs.Threads.{threads_of}
use Rattle.edf_semantics.specs.Choice.{Mark}
use Rattle.edf_machine.specs.Marks.{AreMarks, AreNoted}
use Rattle.edf_machine.proofs.Marking.{Releasing}
use Rattle.edf_machine.proofs.marks.mark_releases.Given as goal

abbrev pub invariant-loop-place : goal.invariant-loop-place
invariant-loop-place l = record {
  many : length l.marks.items ≡ length l.fn.marks.items;
  released : (image : Image) (ms : List Mark) (before : List Thread) → AreMarks image l.fn.marks.items ms → AreNoted before l.fn.marks.items → Releasing l.tick image before (threads_of l.board.cells.items) l.marks.items ms l.place;
}
