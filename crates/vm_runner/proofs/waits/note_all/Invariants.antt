use Rattle.std.proofs.Common.{◌≡◌, ◌+◌, ◌<◌, ℕ, Some, length}
use Rattle.std.specs.Prelude.{slice_get}
use Rattle.vm_stretch.specs.StretchDue.{time_out_of}
use Rattle.vm_releases.specs.Begin.{WaitsAlone}
use Rattle.vm_state.specs.Board.{state_of}
use Rattle.vm_runner.proofs.waits.note_all.Given as goal

abbrev pub ghost-set_time_out : goal.ghost-set_time_out
ghost-set_time_out g a = g.image

abbrev pub invariant-loop-place : goal.invariant-loop-place
invariant-loop-place g l = record {
  waits : (k : ℕ) → k < l.place → slice_get l.agenda.slots (length g.image.processes + k) ≡ Some (time_out_of (slice_get (state_of l.board).threads k));
  others : WaitsAlone (length g.image.processes) l.fn.agenda.slots l.agenda.slots;
  done : l.agenda.done ≡ l.fn.agenda.done;
  order : l.agenda.order ≡ l.fn.agenda.order;
}
