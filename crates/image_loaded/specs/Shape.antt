-- Images that files hold; shapes, which are valid but for their bounds.
use Rattle.std.specs.Prelude.{◌≡◌, ℕ, List, None}
use Rattle.image.specs.Bytes.{Second, bytes_of}
use Rattle.image.specs.InRange.{IsInRange}
use Rattle.image.specs.Named.{NamedImage}
use Rattle.image.specs.Raw.{named_of}
use Rattle.image.specs.declared.raw.RawImage.{RawImage}
use Rattle.image_reader.specs.Answer.{Holds}
use Rattle.valid_image.specs.Valid.{HasLimits, IsValid}
use Rattle.loader.specs.Verified.{fault_before_bounds}

-- the bytes are a file of the image, in one of the versions
pub record AreOf (bytes : List ℕ) (named : NamedImage) : Type 0 where
  pub raw : RawImage
  pub held : Holds bytes raw
  pub image : named ≡ named_of raw

-- and the image is valid
pub record AreOfValid (bytes : List ℕ) (named : NamedImage) : Type 0 where
  pub file : AreOf bytes named
  pub valid : IsValid named.image

-- a valid image that files hold: its bytes in version 2 are a file of it
pub record IsImage (named : NamedImage) : Type 0 where
  pub limits : HasLimits named.image
  pub file : AreOfValid (bytes_of Second named) named

-- an image whose numbers are in the ranges of their fields, and of which no part of validity before
-- bounds has a fault
pub record IsShape (named : NamedImage) : Type 0 where
  pub limits : HasLimits named.image
  pub written : IsInRange named
  pub valid : fault_before_bounds named.image ≡ None
