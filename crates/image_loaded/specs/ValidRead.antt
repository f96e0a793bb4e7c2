-- The law of the valid images that files hold.
use Rattle.std.specs.Prelude.{ℕ, List}
use Rattle.image.specs.declared.raw.RawImage.{RawImage}
use Rattle.image.specs.Raw.{image_of}
use Rattle.image_reader.specs.Answer.{Holds}
use Rattle.machine_semantics.specs.Image.{Script}
use Rattle.sched_timing.specs.Timed.{RespectsFrames, IsInTime}
use Rattle.valid_image.specs.Valid.{IsValid}
use Rattle.valid_image_law.specs.ValidLaw.{IsSafe}

-- The law: an image that bytes hold and that is valid, whoever made it, is safe over every script,
-- and in time over each that respects its frames.
abbrev pub EveryValidImageReadIsSafeAndInTime : Type 0
EveryValidImageReadIsSafeAndInTime =
    (bytes : List ℕ) (raw : RawImage) → Holds bytes raw → IsValid (image_of raw)
    → ((script : Script) → IsSafe (image_of raw) script)
    × ((script : Script) → RespectsFrames (image_of raw) script → IsInTime (image_of raw) script)
