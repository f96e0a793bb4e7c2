-- That valid images that files hold can be run.
use Rattle.std.specs.Prelude.{ℕ, List}
use Rattle.image.specs.declared.raw.RawImage.{RawImage}
use Rattle.image.specs.Raw.{image_of}
use Rattle.image_reader.specs.Answer.{Holds}
use Rattle.vm_law.specs.Logged.{AreNamesOf}
use Rattle.vm_plan.specs.HasPlan.{HasPlan}
use Rattle.valid_image.specs.Valid.{HasLimits, IsValid}

-- what a run asks of an image beside that it is valid: its numbers are in the ranges of their
-- fields, it has a plan, and its names are those of its parts
pub record IsReady (raw : RawImage) : Type 0 where
  pub limits : HasLimits (image_of raw)
  pub plan : HasPlan (image_of raw)
  pub names : AreNamesOf raw.names (image_of raw)

-- The law: so it is with each valid image that bytes hold.
abbrev pub ValidImagesReadAreReady : Type 0
ValidImagesReadAreReady = (bytes : List ℕ) (raw : RawImage) → Holds bytes raw → IsValid (image_of raw) → IsReady raw
