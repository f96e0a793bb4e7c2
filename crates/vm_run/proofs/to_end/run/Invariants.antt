use Rattle.std.proofs.Common.{◌≡◌, ◌≤◌, ◌-◌, ◌++◌, List, ℕ}
use Rattle.std.specs.Prelude.{All}
use Rattle.outside.specs.Outside.{Appends}
use Rattle.event_log.specs.InRange.{AreIn}
use Rattle.vm_runner.specs.Course.{course}
use Rattle.vm_runner.specs.Dispatching.{Before}
use Rattle.vm_runner.specs.Standing.{Stands}
use Rattle.vm_releases.specs.Begin.{script_of}
use Rattle.vm_run.specs.Coming.{coming, log_to_come}
use Rattle.vm_run.proofs.to_end.run.Given as goal

abbrev pub ghost-advance_row : goal.ghost-advance_row
ghost-advance_row g a = g.image

abbrev pub invariant-loop-text : goal.invariant-loop-text
invariant-loop-text g l = record {
  stands : Stands g.D.Dispatch.behaviour g.D.Dispatch.Knows g.image (script_of l.script) Before l.machine;
  lines : All (AreIn l.names) (coming (course g.D.Dispatch.behaviour g.image (script_of l.script)) l.machine.tick);
  end : l.end ≡ l.script.end;
  taken : (before : List ℕ) × Appends (g.O.Sink.state l.fn.out).taken (g.O.Sink.state l.out).taken before × (log_to_come (course g.D.Dispatch.behaviour g.image (script_of l.script)) l.names l.fn.machine.tick ≡ before ++ log_to_come (course g.D.Dispatch.behaviour g.image (script_of l.script)) l.names l.machine.tick);
  count : (g.O.Sink.state l.fn.out).faults ≤ (g.O.Sink.state l.out).faults;
  quiet : (g.O.Sink.state l.out).faults ≡ (g.O.Sink.state l.fn.out).faults;
}

abbrev pub decreases-loop-text : goal.decreases-loop-text
decreases-loop-text g l = l.end - l.machine.tick
