-- Images that can be run over each script for their names, and stored.
use Rattle.std.specs.Prelude.{◌≤◌, ◌^◌, ℕ, List, length}
use Rattle.image.specs.InRange.{IsInRange}
use Rattle.image.specs.Named.{NamedImage}
use Rattle.valid_image.specs.Valid.{HasLimits, IsValid}
use Rattle.vm_plan.specs.HasPlan.{HasPlan}
use Rattle.vm_law.specs.Logged.{AreNamesOf}
use Rattle.script.specs.declared.script.ScriptLine.{ScriptLine}
use Rattle.script.specs.Scripts.{IsScript}
use Rattle.vm_law.specs.ScriptSuits.{script_with}
use Rattle.vm_law.specs.Suits.{Suits}

-- the machine can run the image over each script for its names, and its bytes can be written
pub record IsRunnable (n : NamedImage) : Type 0 where
  pub limits : HasLimits n.image
  pub valid : IsValid n.image
  pub plan : HasPlan n.image
  pub names : AreNamesOf n.names n.image
  pub suits : (text : List ℕ) (lines : List ScriptLine) (last : ℕ) → IsScript n.names text lines last → Suits n.image (script_with lines last)
  pub range : IsInRange n
  pub devices : length n.names.devices ≤ 2 ^ 16
  pub events : length n.names.events ≤ 2 ^ 16
