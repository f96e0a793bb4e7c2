use Rattle.std.proofs.Common.{drop}
use Rattle.vm_state.specs.Board.{IsBoardOf, state_of}
use Rattle.vm_stretch.specs.Steps.{AreLeft, releases}
use Rattle.vm_releases.proofs.release.release_row.Given as goal

abbrev pub ghost-release : goal.ghost-release
ghost-release g a = g.image

abbrev pub invariant-loop-place : goal.invariant-loop-place
invariant-loop-place g l = record {
  board : IsBoardOf g.image l.board;
  left : AreLeft (releases g.image l.tick l.row) (state_of l.fn.board) l.fn.fired.items (releases g.image l.tick (drop l.place-index l.row)) (state_of l.board) l.fired.items;
}
