-- The law of the texts of images.
use Rattle.std.specs.Prelude.{◌≡◌, true, Ok}
use Rattle.image.specs.Bytes.{Second}
use Rattle.image_reader.specs.File.{Parts, image_format, image_with}
use Rattle.asm_format.specs.Text.{text_of}
use Rattle.assembler.specs.Sections.{text_read}

-- the text of an image, each of whose fields is in its range, is read as that image
abbrev pub TextsWrittenAreRead : Type 0
TextsWrittenAreRead =
    (parts : Parts) → image_format.is (Second, parts) ≡ true
    → text_read (text_of (image_with parts)) ≡ Ok parts
