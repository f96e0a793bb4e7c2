use Rattle.std.proofs.Common.{◌≡◌, take, map}
use Rattle.message_script.proofs.unknown.events.Given as goal

abbrev pub invariant-loop-event : goal.invariant-loop-event
invariant-loop-event l = map (λ it. it.now) l.all.items ≡ map (λ e. e.name) (take l.event-index l.events)
