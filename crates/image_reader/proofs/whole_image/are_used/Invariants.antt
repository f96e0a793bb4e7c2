use Rattle.std.proofs.Common.{◌≡◌, ◌-◌}
use Rattle.image_reader.specs.File.{all_used}
use Rattle.image_reader.proofs.whole_image.are_used.Given as goal

abbrev pub invariant-loop-event : goal.invariant-loop-event
invariant-loop-event l = all_used l.used l.event-counter (l.events - l.event-counter) ≡ all_used l.used 0 l.events
