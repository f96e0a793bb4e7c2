-- What the answers of `load_text` mean.
use Rattle.std.specs.Prelude.{◌≡◌, ℕ, List, Some, Result, Ok, Err}
use Rattle.image.specs.Named.{NamedImage}
use Rattle.image.specs.Raw.{image_of, named_of}
use Rattle.image.specs.declared.raw.RawImage.{RawImage}
use Rattle.faulty_part.specs.declared.part.PartFault.{PartFault}
use Rattle.faulty_part.specs.Parts.{part_fault}
use Rattle.image_loaded.specs.declared.fault.ValidFault.{ValidFault}
use Rattle.image_loaded.specs.declared.fault.ValidFault.TheVariants as valid
use Rattle.valid_image.specs.Valid.{IsValid}
use Rattle.assembler.specs.declared.fault.AssemblyFault.{AssemblyFault}
use Rattle.assembler.specs.declared.fault.AssemblyFault.TheVariants as asm
use Rattle.assembler.specs.Faults.{IsFaultOf}
use Rattle.command_due.specs.Texts.{IsTextOf}
use Rattle.command_images.specs.declared.telling.ImageTextFault.{ImageTextFault}
use Rattle.command_images.specs.declared.telling.ImageTextFault.TheVariants as fault

-- the text is that of the image, which is valid
pub record IsValidText (text : List ℕ) (n : NamedImage) : Type 0 where
  pub raw : RawImage
  pub told : IsTextOf text raw
  pub image : n ≡ named_of raw
  pub valid : IsValid n.image

-- the text is that of these numbers, of which this is the first fault of validity
pub record IsInvalidText (text : List ℕ) (raw : RawImage) (found : PartFault) : Type 0 where
  pub told : IsTextOf text raw
  pub first : part_fault (image_of raw) ≡ Some found

-- want of memory says nothing of the text
abbrev pub LoadsText : List ℕ → Result NamedImage ImageTextFault → Type 0
LoadsText text (Ok image) = IsValidText text image
LoadsText text (Err (fault.Text number line)) = IsFaultOf text number line
LoadsText text (Err (fault.Invalid raw found)) = IsInvalidText text raw found
LoadsText text (Err (fault.Memory _)) = Unit {0}

-- ---- the faults of texts, by those of lines and of numbers

abbrev pub of_lines : AssemblyFault → ImageTextFault
of_lines (asm.Bad number line) = fault.Text number line
of_lines (asm.Memory e) = fault.Memory e

abbrev pub of_numbers : ValidFault → ImageTextFault
of_numbers (valid.Invalid raw found) = fault.Invalid raw found
of_numbers (valid.Memory e) = fault.Memory e

-- ---- on the way

abbrev pub TellsImage : List ℕ → Result RawImage AssemblyFault → Type 0
TellsImage text (Ok raw) = IsTextOf text raw
TellsImage text (Err (asm.Bad number line)) = IsFaultOf text number line
TellsImage text (Err (asm.Memory _)) = Unit {0}
