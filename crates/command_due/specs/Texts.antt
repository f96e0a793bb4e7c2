-- The text of an image, as a file holds it.
use Rattle.std.specs.Prelude.{◌≡◌, ◌≤◌, ℕ, true, List, length}
use Rattle.image.specs.Bytes.{Second}
use Rattle.image.specs.Raw.{named_of}
use Rattle.image.specs.declared.raw.RawImage.{RawImage}
use Rattle.image_reader.specs.Answer.{parts_of}
use Rattle.image_reader.specs.File.{image_format, image_with}
use Rattle.asm_format.specs.Text.{text_of}
use Rattle.assembler.specs.Faults.{longest_text}

-- each monitor and each process of the image has a name, and each field is in the range that it
-- has in bytes
pub record HasBytes (raw : RawImage) : Type 0 where
  pub whole : named_of raw ≡ image_with (parts_of raw)
  pub in_range : image_format.is (Second, parts_of raw) ≡ true

-- the text is that of the image, which has bytes
pub record IsTextOf (text : List ℕ) (raw : RawImage) : Type 0 where
  pub short : length text ≤ longest_text
  pub is : text ≡ text_of (named_of raw)
  pub bytes : HasBytes raw
