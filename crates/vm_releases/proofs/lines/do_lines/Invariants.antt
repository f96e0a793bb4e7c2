use Rattle.std.proofs.Common.{◌≤◌, ◌<◌, ◌≡◌, ◌-◌, ℕ, Some, drop, length}
use Rattle.std.specs.Prelude.{slice_get}
use Rattle.machine_semantics.specs.Image.{Line}
use Rattle.machine_semantics.specs.Starts.{lines}
use Rattle.vm_state.specs.Board.{IsBoardOf, state_of}
use Rattle.vm_stretch.specs.Quiet.{line_tick}
use Rattle.vm_stretch.specs.Steps.{AreLeft}
use Rattle.vm_releases.specs.Begin.{lines_of}
use Rattle.vm_releases.proofs.lines.do_lines.Given as goal

abbrev pub ghost-do_line : goal.ghost-do_line
ghost-do_line g a = g.image

abbrev pub invariant-loop-done : goal.invariant-loop-done
invariant-loop-done g l = record {
  board : IsBoardOf g.image l.board;
  left : AreLeft (lines g.image l.tick (lines_of l.script)) (state_of l.fn.board) l.fn.fired.items (lines g.image l.tick (drop l.done (lines_of l.script))) (state_of l.board) l.fired.items;
  from : l.fn.done ≤ l.done;
  within : l.done ≤ length l.script;
  past : (i : ℕ) (m : Line) → slice_get (lines_of l.script) i ≡ Some m → i < l.done → line_tick m ≤ l.tick;
}

abbrev pub decreases-loop-done : goal.decreases-loop-done
decreases-loop-done g l = length l.script - l.done
