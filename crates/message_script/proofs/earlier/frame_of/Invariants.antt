use Rattle.std.proofs.Common.{◌≡◌, drop}
use Rattle.std.specs.Prelude.{bytes_eq, find}
use Rattle.message_script.proofs.earlier.frame_of.Given as goal

abbrev pub invariant-loop-event : goal.invariant-loop-event
invariant-loop-event l = find (λ e. bytes_eq e.name l.name) (drop l.event-index l.events) ≡ find (λ e. bytes_eq e.name l.name) l.events
