use Rattle.std.proofs.Common.{◌≡◌, length}
use Rattle.machine_semantics.specs.Image.{Image}
use Rattle.vm_state.specs.Board.{IsBoardOf, state_of}
use Rattle.vm_state.specs.Plan.{IsOf}
use Rattle.vm_runner.proofs.Foremost.{AreFirst}
use Rattle.vm_runner.proofs.ranking.Ranking.note_all.Given as goal

abbrev pub invariant-loop-k : goal.invariant-loop-k
invariant-loop-k l = record {
  count : length l.self.precedences.items ≡ l.k;
  numbers : (image : Image) → IsOf image l.plan → IsBoardOf image l.board → AreFirst image (state_of l.board).threads l.self.precedences.items;
}
