-- What is still to come of a run.
use Rattle.std.specs.Prelude.{ℕ, List}
use Rattle.base.specs.declared.event.Event.{Event}
use Rattle.image.specs.declared.names.ImageNames.{ImageNames}
use Rattle.event_log.specs.Line.{log_of}
use Rattle.vm_runner.specs.Course.{Course, events_between}

-- the events of the run from a tick up to the end of the script
abbrev pub coming : Course → ℕ → List Event
coming c from = events_between c from c.script.end_tick

-- their lines in the log
abbrev pub log_to_come : Course → ImageNames → ℕ → List ℕ
log_to_come c names from = log_of names (coming c from)
