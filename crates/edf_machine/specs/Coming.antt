-- What is still to come of a run under earliest deadline first.
use Rattle.std.specs.Prelude.{◌≡◌, ℕ, List}
use Rattle.base.specs.declared.event.Event.{Event}
use Rattle.image.specs.declared.names.ImageNames.{ImageNames}
use Rattle.machine_semantics.specs.Image.{Image, Script}
use Rattle.vm_run.specs.Coming as whole
use Rattle.edf_semantics.specs.Run.{events}
use Rattle.edf_machine.specs.ByDeadlines.{by_deadlines}

-- the events of the run from a tick up to the end of the script
abbrev pub coming : Image → Script → ℕ → List Event
coming image script from = whole.coming (by_deadlines image script) from

-- their lines in the log
abbrev pub log_to_come : Image → Script → ImageNames → ℕ → List ℕ
log_to_come image script names from = whole.log_to_come (by_deadlines image script) names from

-- The law: from tick 0 on the events of the whole run are to come.
abbrev pub AllIsToCome : Type 0
AllIsToCome = (image : Image) (script : Script) → coming image script 0 ≡ events image script
