use Rattle.std.proofs.Common.{◌≡◌, drop}
use Rattle.vm_runner.specs.Waits.{is_some_at_queue}
use Rattle.vm_runner.proofs.waits.is_some_at_queue.Given as goal

abbrev pub invariant-loop-event : goal.invariant-loop-event
invariant-loop-event l = is_some_at_queue l.events ≡ is_some_at_queue (drop l.event-index l.events)
