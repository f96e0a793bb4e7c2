use Rattle.std.proofs.Common.{◌+◌, ◌-◌, length}
use Rattle.machine_semantics.specs.Starts.{time_outs}
use Rattle.vm_state.specs.Board.{IsBoardOf, state_of}
use Rattle.vm_stretch.specs.Steps.{AreLeft, HasWaits}
use Rattle.vm_releases.specs.Begin.{HaveQueues, WaitsAlone}
use Rattle.vm_releases.proofs.clock.do_time_outs.Given as goal

abbrev pub ghost-expire : goal.ghost-expire
ghost-expire g a = g.image

abbrev pub invariant-loop-next : goal.invariant-loop-next
invariant-loop-next g l = record {
  board : IsBoardOf g.image l.board;
  queues : HaveQueues (state_of l.board);
  waits : HasWaits (length g.image.processes) (state_of l.board) l.slots;
  alone : WaitsAlone (length g.image.processes) l.fn.slots l.slots;
  left : AreLeft (time_outs g.image l.tick 1 (length g.image.processes)) (state_of l.fn.board) l.fn.fired.items (time_outs g.image l.tick (l.next-index + 1) (length g.image.processes - l.next-index)) (state_of l.board) l.fired.items;
}
