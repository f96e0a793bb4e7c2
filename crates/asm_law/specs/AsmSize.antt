-- The law of the texts and the bytes of images.
use Rattle.std.specs.Prelude.{◌≡◌, ◌≤◌, true, length}
use Rattle.image.specs.Bytes.{bytes_of, Second}
use Rattle.asm_format.specs.Text.{text_of}
use Rattle.image_reader.specs.File.{Parts, image_with, image_format, longest}

-- an image, its fields in their ranges, whose text has at most 8388608 bytes has itself no more
-- than an image may have
abbrev pub TextsHoldTheirBytes : Type 0
TextsHoldTheirBytes =
    (parts : Parts) → image_format.is (Second, parts) ≡ true
    → length (text_of (image_with parts)) ≤ 8388608
    → length (bytes_of Second (image_with parts)) ≤ longest
