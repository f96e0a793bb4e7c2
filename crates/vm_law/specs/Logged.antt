-- That each event of a run has a line.
use Rattle.std.specs.Prelude.{◌≡◌, ◌≤◌, All, length}
use Rattle.image.specs.declared.names.ImageNames.{ImageNames}
use Rattle.event_log.specs.InRange.{AreIn, AreSound}
use Rattle.machine_semantics.specs.Image.{Image, Script}
use Rattle.machine_semantics.specs.Run.{events}
use Rattle.valid_image.specs.Valid.{HasLimits, IsValid}

-- the names are those of the parts of the image: there are as many of each, and they can stand in a
-- line
pub record AreNamesOf (names : ImageNames) (image : Image) : Type 0 where
  pub sound : AreSound names
  pub processes : length names.processes ≡ length image.processes
  pub monitors : length names.monitors ≡ length image.monitors
  pub conditions : length names.conditions ≡ length image.conditions
  pub devices : length names.devices ≡ length image.devices

-- each event of the run has a line
abbrev pub HasLines : ImageNames → Image → Script → Type 0
HasLines names image script = All (AreIn names) (events image script)

-- The law: so it is in each run of a valid image up to tick 1,000,000,000.
abbrev pub ValidRunsHaveLines : Type 0
ValidRunsHaveLines = (names : ImageNames) (image : Image) (script : Script) → HasLimits image → IsValid image → AreNamesOf names image → script.end_tick ≤ 1000000000 → HasLines names image script
