-- What the calls answer.
use Rattle.std.specs.Prelude.{◌≡◌, ℕ, List, None, Some, Result, Ok, Err}
use Rattle.image.specs.Bytes.{Second, bytes_of}
use Rattle.image.specs.InRange.{IsInRange}
use Rattle.image.specs.Named.{NamedImage}
use Rattle.image.specs.Raw.{image_of, named_of}
use Rattle.image.specs.declared.raw.RawImage.{RawImage}
use Rattle.image_reader.specs.Answer.{HasFault, Holds}
use Rattle.image_reader.specs.declared.fault.ImageFault.{ImageFault}
use Rattle.image_reader.specs.declared.fault.ImageFault.TheVariants as image
use Rattle.faulty_part.specs.declared.part.PartFault.{PartFault}
use Rattle.faulty_part.specs.Parts.{part_fault}
use Rattle.valid_image.specs.Valid.{IsValid}
use Rattle.loader.specs.Verified.{HasRanges, fault_before_bounds}
use Rattle.image_loaded.specs.Shape.{AreOf, AreOfValid, IsShape}
use Rattle.image_loaded.specs.declared.fault.FileFault.{FileFault}
use Rattle.image_loaded.specs.declared.fault.FileFault.TheVariants as file
use Rattle.image_loaded.specs.declared.fault.ValidFault.{ValidFault}
use Rattle.image_loaded.specs.declared.fault.ValidFault.TheVariants as valid

-- the bytes are those of these numbers, of which this is the first fault of validity
pub record IsInvalid (bytes : List ℕ) (raw : RawImage) (found : PartFault) : Type 0 where
  pub held : Holds bytes raw
  pub first : part_fault (image_of raw) ≡ Some found

-- Ok exactly where the bytes are a file of a valid image, and of that image; an image fault exactly
-- where they are a file of none, and it is their first; a fault of validity exactly where they are a
-- file of an image that is not valid, and it is the first; want of memory says nothing
abbrev pub Loads : List ℕ → Result NamedImage FileFault → Type 0
Loads bytes (Ok image) = AreOfValid bytes image
Loads bytes (Err (file.Image number offset)) = HasFault bytes number offset
Loads bytes (Err (file.Invalid raw found)) = IsInvalid bytes raw found
Loads bytes (Err (file.Memory _)) = Unit {0}

-- the same of numbers: Ok exactly where they are valid, and of their image
abbrev pub Verifies : RawImage → Result NamedImage ValidFault → Type 0
Verifies raw (Ok image) = (image ≡ named_of raw) × IsValid (image_of raw)
Verifies raw (Err (valid.Invalid same found)) = (same ≡ raw) × (part_fault (image_of raw) ≡ Some found)
Verifies raw (Err (valid.Memory _)) = Unit {0}

-- the bytes are those of these numbers, of which a part of validity before bounds fails, and this is
-- the first fault
pub record IsMisshapen (bytes : List ℕ) (raw : RawImage) (found : PartFault) : Type 0 where
  pub invalid : IsInvalid bytes raw found
  pub before : fault_before_bounds (image_of raw) ≡ None → ⊥

-- the same of shapes: a fault of validity exactly where a part before bounds fails
abbrev pub LoadsShape : List ℕ → Result NamedImage FileFault → Type 0
LoadsShape bytes (Ok shape) = AreOf bytes shape × IsShape shape
LoadsShape bytes (Err (file.Image number offset)) = HasFault bytes number offset
LoadsShape bytes (Err (file.Invalid raw found)) = IsMisshapen bytes raw found
LoadsShape bytes (Err (file.Memory _)) = Unit {0}

-- ---- on the way

-- what is read has its numbers in the ranges of their fields
pub record IsRead (bytes : List ℕ) (raw : RawImage) : Type 0 where
  pub held : Holds bytes raw
  pub ranges : HasRanges raw
  pub written : IsInRange (named_of raw)
  -- where it is valid, its bytes in version 2 hold it again
  pub again : IsValid (image_of raw) → Holds (bytes_of Second (named_of raw)) raw

abbrev pub Reads : List ℕ → Result RawImage ImageFault → Type 0
Reads bytes (Ok raw) = IsRead bytes raw
Reads bytes (Err (image.Bad number offset)) = HasFault bytes number offset
Reads bytes (Err (image.Memory _)) = Unit {0}

-- the answer to numbers of which a shape was asked
abbrev pub Shapes : RawImage → Result NamedImage ValidFault → Type 0
Shapes raw (Ok shape) = (shape ≡ named_of raw) × IsShape shape
Shapes raw (Err (valid.Invalid same found)) = (same ≡ raw) × (part_fault (image_of raw) ≡ Some found) × (fault_before_bounds (image_of raw) ≡ None → ⊥)
Shapes raw (Err (valid.Memory _)) = Unit {0}
