-- The law of the images that files hold.
use Rattle.std.specs.Prelude.{◌≤◌, ℕ, List, length}
use Rattle.image.specs.declared.raw.RawImage.{RawImage}
use Rattle.image.specs.Raw.{image_of}
use Rattle.image_reader.specs.Answer.{Holds}
use Rattle.valid_image.specs.Valid.{HasLimits}

-- each number of an image that a file holds is in the range of its field, as far as the laws of
-- valid images ask
abbrev pub ImagesReadHaveLimits : Type 0
ImagesReadHaveLimits =
    (bytes : List ℕ) (raw : RawImage) → Holds bytes raw → HasLimits (image_of raw)

-- and it has at most 64 monitors
abbrev pub ImagesReadHaveFewMonitors : Type 0
ImagesReadHaveFewMonitors =
    (bytes : List ℕ) (raw : RawImage) → Holds bytes raw → length raw.monitors ≤ 64
