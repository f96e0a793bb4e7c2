-- Images that are valid, and can be run and stored.
use Rattle.std.specs.Prelude.{◌≤◌, ◌^◌, ℕ, List, length}
use Rattle.syntax_tree.specs.Placed.{Prog, plain}
use Rattle.syntax_tree.specs.declared.place.Place.{Place}
use Rattle.image.specs.Named.{NamedImage}
use Rattle.image.specs.InRange.{IsInRange}
use Rattle.valid_image.specs.Valid.{HasLimits, IsValid}
use Rattle.vm_plan.specs.HasPlan.{HasPlan}
use Rattle.vm_law.specs.Logged.{AreNamesOf}
use Rattle.vm_law.specs.Suits.{HasFrames}
use Rattle.built_image.specs.Built.{IsBuilt}
use Rattle.command_due.specs.Source.{IsWritten}

-- what a run and a store ask of an image: it is valid, numbers are in the ranges of their fields,
-- it has a plan, its names are those of its parts, counts fit their fields, and the frames that
-- stand at its events are those of its processes
pub record IsReady (n : NamedImage) : Type 0 where
  pub limits : HasLimits n.image
  pub valid : IsValid n.image
  pub plan : HasPlan n.image
  pub names : AreNamesOf n.names n.image
  pub range : IsInRange n
  pub frames : HasFrames n.names n.image
  pub devices : length n.names.devices ≤ 2 ^ 16
  pub events : length n.names.events ≤ 2 ^ 16

-- The law: so is each image that is built of a program that is written.
abbrev pub BuiltImagesAreReady : Type 0
BuiltImagesAreReady = (text : List ℕ) (g : Prog Place) (over : ℕ) (n : NamedImage) → IsWritten text g → IsBuilt (plain g) over n → IsReady n
