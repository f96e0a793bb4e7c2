use Rattle.std.proofs.Common.{drop}
use Rattle.machine_semantics.specs.Starts.{periodic}
use Rattle.vm_state.specs.Board.{IsBoardOf, state_of}
use Rattle.vm_stretch.specs.Steps.{AreLeft}
use Rattle.vm_releases.specs.Begin.{MovedBelow}
use Rattle.vm_releases.proofs.clock.do_releases.Given as goal

abbrev pub ghost-clock : goal.ghost-clock
ghost-clock g a = g.image

abbrev pub invariant-loop-place : goal.invariant-loop-place
invariant-loop-place g l = record {
  board : IsBoardOf g.image l.board;
  left : AreLeft (periodic g.image l.tick 0 g.image.processes) (state_of l.fn.board) l.fn.fired.items (periodic g.image l.tick l.place (drop l.place g.image.processes)) (state_of l.board) l.fired.items;
  moved : MovedBelow g.image l.tick l.place l.fn.slots l.slots;
}
