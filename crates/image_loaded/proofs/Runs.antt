-- Runs of a valid image.
use Rattle.machine_semantics.specs.Image.{Image, Script}
use Rattle.image.specs.Named.{NamedImage}
use Rattle.sched_timing.specs.Timed.{IsInTime, RespectsFrames}
use Rattle.valid_image_law.specs.ValidLaw.{EveryValidImageIsSafeAndInTime, IsSafe}
use Rattle.image_loaded.specs.Shape.{IsImage}

pub safe : EveryValidImageIsSafeAndInTime → (n : NamedImage) → IsImage n → (script : Script) → IsSafe n.image script
safe law n is = (law n.image is.limits is.file.valid).0

pub in_time : EveryValidImageIsSafeAndInTime → (n : NamedImage) → IsImage n → (script : Script) → RespectsFrames n.image script → IsInTime n.image script
in_time law n is = (law n.image is.limits is.file.valid).1
