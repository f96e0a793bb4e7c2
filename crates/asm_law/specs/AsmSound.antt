-- The law of the images that texts tell.
use Rattle.std.specs.Prelude.{◌≡◌, ◌<◌, ◌^◌, ℕ, true, List, Ok, length}
use Rattle.image.specs.Bytes.{Second}
use Rattle.image_reader.specs.File.{Parts, image_format, image_with}
use Rattle.asm_format.specs.Text.{text_of}
use Rattle.assembler.specs.Sections.{text_read}

-- what is read of a text is the text of an image, each of whose fields is in its range: where the
-- text has less than 2 ^ 32 bytes, so that four bytes count the segments of a tree
abbrev pub TextsReadAreWritten : Type 0
TextsReadAreWritten =
    (text : List ℕ) (parts : Parts) → text_read text ≡ Ok parts
    → (text ≡ text_of (image_with parts)) × (length text < 2 ^ 32 → image_format.is (Second, parts) ≡ true)
