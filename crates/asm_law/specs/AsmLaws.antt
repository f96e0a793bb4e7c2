-- The laws of texts and the images that they tell.
use Rattle.std.specs.Prelude.{◌≡◌, ◌≤◌, ℕ, List, length, Ok}
use Rattle.image.specs.Raw.{named_of}
use Rattle.image.specs.declared.raw.RawImage.{RawImage}
use Rattle.image_reader.specs.Answer.{Holds, parts_of}
use Rattle.image_reader.specs.File.{image_with}
use Rattle.assembler.specs.Sections.{text_read}
use Rattle.assembler.specs.Faults.{IsFaultOf, longest_text}
use Rattle.command_due.specs.Texts.{IsTextOf}
use Rattle.command_due.specs.CommandsDue.{stored}

-- an image that is read of a text is one whose text it is
abbrev pub TextsReadAreOfImages : Type 0
TextsReadAreOfImages =
    (text : List ℕ) (raw : RawImage) → length text ≤ longest_text → text_read text ≡ Ok (parts_of raw)
    → named_of raw ≡ image_with (parts_of raw) → IsTextOf text raw

-- a text is that of one image
abbrev pub TextsAreOfOneImage : Type 0
TextsAreOfOneImage = (text : List ℕ) (raw other : RawImage) → IsTextOf text raw → IsTextOf text other → named_of raw ≡ named_of other

-- the bytes of an image that a text tells hold it
abbrev pub ImagesToldAreHeld : Type 0
ImagesToldAreHeld = (text : List ℕ) (raw : RawImage) → IsTextOf text raw → Holds (stored (named_of raw)) raw

-- a text that is that of an image has no fault
abbrev pub TextsOfImagesHaveNoFault : Type 0
TextsOfImagesHaveNoFault = (text : List ℕ) (raw : RawImage) (number line : ℕ) → IsTextOf text raw → IsFaultOf text number line → ⊥

-- a text has one fault
abbrev pub TextsHaveOneFault : Type 0
TextsHaveOneFault =
    (text : List ℕ) (number other line there : ℕ) → IsFaultOf text number line → IsFaultOf text other there
    → (number ≡ other) × (line ≡ there)
