-- A run that is followed.
use Rattle.std.specs.Prelude.{◌≡◌}
use Rattle.machine_semantics.specs.Image.{Image, Script}
use Rattle.vm_runner.specs.Standing.{StandsIn}
use Rattle.command_due.specs.Text.{events_before, recent, shown_events}
use Rattle.vm_watch.specs.declared.course.Course.{Course}

-- the machine stands in the run, and the ring has the last events before the machine's tick
pub record Follows (image : Image) (script : Script) (course : Course) : Type 0 where
  pub stands : StandsIn image script course.machine
  pub recent_are : course.recent.items ≡ recent (events_before image script course.machine.tick)
  pub room : course.recent.capacity ≡ shown_events
