-- What is due of `asm` and of `dis`.
use Rattle.std.specs.Prelude.{◌≡◌, ◌++◌, ℕ, List, [], Some, codes, decimal}
use Rattle.image.specs.Raw.{image_of, named_of}
use Rattle.image.specs.declared.raw.RawImage.{RawImage}
use Rattle.image_reader.specs.Answer.{Holds, HasFault}
use Rattle.asm_format.specs.Text.{text_of}
use Rattle.valid_image.specs.Valid.{Shown, IsValid, fault_of}
use Rattle.command_due.specs.CommandsDue.{Outcome, told, stored, image_fault_line, valid_fault_line}
use Rattle.assembler.specs.Faults.{IsFaultOf}
use Rattle.command_due.specs.Texts.{IsTextOf}

-- nothing is put, and these bytes are stored
abbrev pub keeps : List ℕ → Outcome
keeps bytes = record { status = 0; text = []; image = Some bytes }

abbrev pub text_fault_line : (number line : ℕ) → List ℕ
text_fault_line number line = codes "A" ++ (decimal number ++ (codes " " ++ (decimal line ++ codes "\n")))

-- `asm`: the bytes of the valid image whose text this is are stored; of another text the line of
-- its fault is put, and of another image that of its first fault
pub data IsAsmDue (text : List ℕ) (outcome : Outcome) : Type 0 where
  asm_faulty : (number line : ℕ) → IsFaultOf text number line → outcome ≡ told 4 (text_fault_line number line) → IsAsmDue text outcome
  asm_invalid : (raw : RawImage) (fault : Shown) → IsTextOf text raw → fault_of (image_of raw) ≡ Some fault
      → outcome ≡ told 4 (valid_fault_line fault) → IsAsmDue text outcome
  assembled : (raw : RawImage) → IsTextOf text raw → IsValid (image_of raw) → outcome ≡ keeps (stored (named_of raw)) → IsAsmDue text outcome

-- `dis`: the text of the image that the bytes hold is stored, valid or not; of other bytes the line
-- of their fault is put
pub data IsDisDue (bytes : List ℕ) (outcome : Outcome) : Type 0 where
  dis_misread : (number offset : ℕ) → HasFault bytes number offset → outcome ≡ told 4 (image_fault_line number offset) → IsDisDue bytes outcome
  disassembled : (raw : RawImage) → Holds bytes raw → outcome ≡ keeps (text_of (named_of raw)) → IsDisDue bytes outcome
