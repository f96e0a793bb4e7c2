-- What is stored of a program holds its image.
use Rattle.std.specs.Prelude.{◌≡◌, ◌≤◌, ℕ, true, List}
use Rattle.syntax_tree.specs.Placed.{Prog, plain}
use Rattle.syntax_tree.specs.declared.place.Place.{Place}
use Rattle.image.specs.declared.raw.RawImage.{RawImage}
use Rattle.image.specs.Bytes.{Second}
use Rattle.image.specs.Named.{NamedImage}
use Rattle.image.specs.Raw.{named_of}
use Rattle.image_reader.specs.Answer.{parts_of}
use Rattle.image_reader.specs.File.{image_format, image_with}
use Rattle.built_image.specs.Built.{IsBuilt}
use Rattle.command_due.specs.CommandsDue.{IsImageFile, stored}
use Rattle.command_due.specs.Source.{IsWritten}

-- the image as it stands in a file, where each field is in its range
pub record IsRanged (n : NamedImage) (raw : RawImage) : Type 0 where
  pub named : named_of raw ≡ n
  pub whole : named_of raw ≡ image_with (parts_of raw)
  pub ranged : image_format.is (Second, parts_of raw) ≡ true

-- The law: each field of the image that is built of a program that is written is in its range, with
-- an overhead of at most 1,000 ticks.
abbrev pub BuiltImagesAreRanged : Type 0
BuiltImagesAreRanged = (text : List ℕ) (g : Prog Place) (over : ℕ) (n : NamedImage) → over ≤ 1000 → IsWritten text g → IsBuilt (plain g) over n
    → (raw : RawImage) × IsRanged n raw

-- The law: so the bytes that are stored of it are those of a valid image, which it is.
abbrev pub BuiltImagesAreHeld : Type 0
BuiltImagesAreHeld = (text : List ℕ) (g : Prog Place) (over : ℕ) (n : NamedImage) → over ≤ 1000 → IsWritten text g → IsBuilt (plain g) over n
    → (raw : RawImage) × (named_of raw ≡ n) × IsImageFile (stored n) raw
