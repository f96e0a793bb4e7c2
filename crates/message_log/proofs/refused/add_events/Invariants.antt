use Rattle.std.proofs.Common.{◌≡◌, ◌++◌, drop}
use Rattle.message_log.specs.Refused.{list_lines}
use Rattle.replay_reason_spec.specs.Events.{events_of}
use Rattle.message_log.proofs.refused.add_events.Given as goal

abbrev pub invariant-loop-event : goal.invariant-loop-event
invariant-loop-event l = l.text ++ list_lines l.names (events_of (drop l.event-index l.events)) ≡ l.fn.text ++ list_lines l.names (events_of l.events)
