-- What the answer of the call says of the text.
use Rattle.std.specs.Prelude.{◌≡◌, ◌≤◌, List, ℕ, length, Result, Ok, Err}
use Rattle.image.specs.declared.raw.RawImage.{RawImage}
use Rattle.image.specs.Raw.{named_of}
use Rattle.image_reader.specs.Answer.{parts_of}
use Rattle.image_reader.specs.File.{image_with}
use Rattle.assembler.specs.declared.fault.AssemblyFault.{AssemblyFault}
use Rattle.assembler.specs.declared.fault.AssemblyFault.TheVariants as faults
use Rattle.assembler.specs.Faults.{IsFaultOf, longest_text}
use Rattle.assembler.specs.Sections.{text_read}

-- the text tells this image
pub record Reads (text : List ℕ) (raw : RawImage) : Type 0 where
  pub short : length text ≤ longest_text
  pub is_read : text_read text ≡ Ok (parts_of raw)
  pub image : named_of raw ≡ image_with (parts_of raw)

abbrev pub Tells : List ℕ → Result RawImage AssemblyFault → Type 0
Tells text (Ok raw) = Reads text raw
Tells text (Err (faults.Bad number line)) = IsFaultOf text number line
Tells text (Err (faults.Memory _)) = length text ≤ longest_text
