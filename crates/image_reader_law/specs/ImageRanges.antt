-- The law of the images that files hold.
use Rattle.std.specs.Prelude.{ℕ, List}
use Rattle.image.specs.declared.raw.RawImage.{RawImage}
use Rattle.image.specs.InRange.{IsInRange}
use Rattle.image.specs.Raw.{named_of}
use Rattle.image_reader.specs.Answer.{Holds}

-- an image that a file holds can be written: its counts fit their fields
abbrev pub ImagesReadCanBeWritten : Type 0
ImagesReadCanBeWritten = (bytes : List ℕ) (raw : RawImage) → Holds bytes raw → IsInRange (named_of raw)
