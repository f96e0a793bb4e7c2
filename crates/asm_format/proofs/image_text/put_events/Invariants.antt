use Rattle.std.proofs.Common.{◌≡◌, ◌++◌, take}
use Rattle.std.specs.List.{flat_map}
use Rattle.asm_format.specs.Text.{event_line}
use Rattle.asm_format.proofs.image_text.put_events.Given as goal

abbrev pub invariant-loop-event : goal.invariant-loop-event
invariant-loop-event l = l.text ≡ l.initial.text ++ flat_map (λ e. event_line e.name) (take l.event-index l.events)
