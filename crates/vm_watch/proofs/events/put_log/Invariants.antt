use Rattle.std.proofs.Common.{◌≡◌, ◌++◌, drop}
use Rattle.event_log.specs.Line.{log_of}
use Rattle.vm_watch.proofs.events.put_log.Given as goal

abbrev pub invariant-loop-event : goal.invariant-loop-event
invariant-loop-event l = l.text ++ log_of l.names (drop l.event-index l.events) ≡ l.initial.text ++ log_of l.names l.events
