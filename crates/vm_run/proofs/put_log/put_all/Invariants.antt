use Rattle.std.proofs.Common.{◌≡◌, ◌≤◌, take}
use Rattle.outside.specs.Outside.{Appends}
use Rattle.event_log.specs.Line.{log_of}
use Rattle.vm_run.proofs.put_log.put_all.Given as goal

abbrev pub invariant-loop-event : goal.invariant-loop-event
invariant-loop-event g l = record {
  taken : Appends (g.O.Sink.state l.fn.out).taken (g.O.Sink.state l.out).taken (log_of l.names (take l.event-index l.events));
  count : (g.O.Sink.state l.fn.out).faults ≤ (g.O.Sink.state l.out).faults;
  quiet : (g.O.Sink.state l.out).faults ≡ (g.O.Sink.state l.fn.out).faults;
}
