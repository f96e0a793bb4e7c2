use Rattle.std.proofs.Common.{◌≡◌, ◌+◌, drop, length}
use Rattle.std.specs.List.{flat_map}
use Rattle.image.specs.Bytes.{event_bytes}
use Rattle.image_bytes.proofs.names.after_events.Given as goal

abbrev pub invariant-loop-event : goal.invariant-loop-event
invariant-loop-event l = l.at + length (flat_map event_bytes (drop l.event-index l.events)) ≡ l.start + length (flat_map event_bytes l.events)
