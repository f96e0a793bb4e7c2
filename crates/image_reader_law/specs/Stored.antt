-- The bytes that are stored of an image, those of the second version, hold it.
use Rattle.std.specs.Prelude.{◌≡◌, ◌≤◌, ℕ, true, List, length}
use Rattle.image.specs.declared.raw.RawImage.{RawImage}
use Rattle.image.specs.Bytes.{Second, bytes_of}
use Rattle.image.specs.Raw.{image_of, named_of}
use Rattle.image_format.specs.FormatLaw.{AreBytes}
use Rattle.image_reader.specs.Answer.{Holds, parts_of}
use Rattle.image_reader.specs.File.{Parts, image_format, image_with, longest}
use Rattle.valid_image.specs.Valid.{IsValid}

-- The law: a valid image, its fields in their ranges, has no more bytes than an image may have.
abbrev pub ValidImagesAreShort : Type 0
ValidImagesAreShort = (parts : Parts) → image_format.is (Second, parts) ≡ true → IsValid (image_with parts).image
    → length (bytes_of Second (image_with parts)) ≤ longest

-- The law: so these bytes hold it.
abbrev pub ValidImagesAreHeld : Type 0
ValidImagesAreHeld = (raw : RawImage) → named_of raw ≡ image_with (parts_of raw) → image_format.is (Second, parts_of raw) ≡ true
    → IsValid (image_of raw) → Holds (bytes_of Second (named_of raw)) raw

-- The law: so they do of each valid image that was read, in either version.
abbrev pub ImagesReadAreHeldAgain : Type 0
ImagesReadAreHeldAgain = (bytes : List ℕ) (raw : RawImage) → AreBytes bytes → Holds bytes raw → IsValid (image_of raw)
    → Holds (bytes_of Second (named_of raw)) raw
