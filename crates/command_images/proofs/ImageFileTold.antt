-- What a text tells, judged and loaded.
use Rattle.std.proofs.Common.{ℕ, List, Ok, Err, sym, subst}
use Rattle.std.specs.Prelude.{Result}
use Rattle.image.specs.Named.{NamedImage}
use Rattle.image.specs.Raw.{named_of}
use Rattle.image.specs.declared.raw.RawImage.{RawImage}
use Rattle.valid_image.specs.Valid.{IsValid}
use Rattle.image_loaded.specs.Answers.{Verifies}
use Rattle.image_loaded.specs.declared.fault.ValidFault.{ValidFault}
use Rattle.image_loaded.specs.declared.fault.ValidFault.TheVariants as valid
use Rattle.assembler.specs.Answer.{Tells}
use Rattle.assembler.specs.declared.fault.AssemblyFault.{AssemblyFault}
use Rattle.assembler.specs.declared.fault.AssemblyFault.TheVariants as asm
use Rattle.asm_law.specs.AsmLaws.{TextsReadAreOfImages}
use Rattle.command_due.specs.Texts.{IsTextOf}
use Rattle.command_images.specs.Telling.{IsInvalidText, IsValidText, LoadsText, TellsImage, of_lines, of_numbers}

pub tells : (text : List ℕ) → TextsReadAreOfImages → (answer : Result RawImage AssemblyFault) → Tells text answer → TellsImage text answer
tells text read (Ok raw) t = read text raw t.short t.is_read t.image
tells text read (Err (asm.Bad number line)) t = t
tells text read (Err (asm.Memory _)) t = tt

pub untold : (text : List ℕ) (why : AssemblyFault) → TellsImage text (Err why) → LoadsText text (Err (of_lines why))
untold text (asm.Bad number line) h = h
untold text (asm.Memory _) h = tt

pub loads_text : (text : List ℕ) (raw : RawImage) (n : NamedImage) → IsTextOf text raw → Verifies raw (Ok n) → LoadsText text (Ok n)
loads_text text raw n is h = record { raw = raw; told = is; image = h.0; valid = subst (λ (x : NamedImage). IsValid x.image) (sym h.0) h.1 }

pub loads_no_text : (text : List ℕ) (raw : RawImage) (why : ValidFault) → IsTextOf text raw → Verifies raw (Err why) → LoadsText text (Err (of_numbers why))
loads_no_text text raw (valid.Invalid same found) is h =
    subst (λ (x : RawImage). IsInvalidText text x found) (sym h.0) (let told : IsInvalidText text raw found = record { told = is; first = h.1 } in told)
loads_no_text text raw (valid.Memory _) is h = tt
