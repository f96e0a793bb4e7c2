-- Texts and the images that they tell.
use Rattle.std.proofs.Common.{◌≡◌, ◌≤◌, ◌∙◌, ℕ, List, length, Ok, Err, inl, inr, sym, subst, ap, arith}
use Rattle.image.specs.declared.raw.RawImage.{RawImage}
use Rattle.image.specs.Bytes.{Second, bytes_of}
use Rattle.image.specs.Named.{NamedImage}
use Rattle.image_reader.specs.Answer.{parts_of}
use Rattle.image_reader.specs.File.{image_with, longest, read_file}
use Rattle.image_reader_law.specs.ImageSound.{ImagesWrittenAreRead}
use Rattle.asm_format.specs.Text.{text_of}
use Rattle.text_fields.specs.Front.{fault}
use Rattle.assembler.specs.Sections.{text_read}
use Rattle.asm_law.specs.AsmSound.{TextsReadAreWritten}
use Rattle.asm_law.specs.AsmReads.{TextsWrittenAreRead}
use Rattle.asm_law.specs.AsmSize.{TextsHoldTheirBytes}
use Rattle.command_due.specs.Texts.{IsTextOf}
use Rattle.asm_law.specs.AsmLaws.{TextsReadAreOfImages, TextsAreOfOneImage, ImagesToldAreHeld, TextsOfImagesHaveNoFault}

pub read_is : TextsReadAreWritten → TextsReadAreOfImages
read_is law text raw short read whole =
    let w = law text (parts_of raw) read in
    record { short = short; is = w.0 ∙ sym (ap text_of whole); bytes = record { whole = whole; in_range = w.1 (omega (arith, short)) } }

-- a text of an image is read as that image
told_is_read : TextsWrittenAreRead → (text : List ℕ) (raw : RawImage) → IsTextOf text raw → text_read text ≡ Ok (parts_of raw)
told_is_read law text raw t =
    let is : text ≡ text_of (image_with (parts_of raw)) = t.is ∙ ap text_of t.bytes.whole in
    ap text_read is ∙ law (parts_of raw) t.bytes.in_range

pub one_image : TextsWrittenAreRead → TextsAreOfOneImage
one_image law text raw other first second =
    let both : Ok (parts_of raw) ≡ Ok (parts_of other) = sym (told_is_read law text raw first) ∙ told_is_read law text other second in
    let parts : parts_of raw ≡ parts_of other = cc in
    first.bytes.whole ∙ (ap image_with parts ∙ sym second.bytes.whole)

pub told_is_held : TextsHoldTheirBytes → ImagesWrittenAreRead → ImagesToldAreHeld
told_is_held size law text raw t =
    let is : text ≡ text_of (image_with (parts_of raw)) = t.is ∙ ap text_of t.bytes.whole in
    let short : length (text_of (image_with (parts_of raw))) ≤ 8388608 = subst (λ (x : List ℕ). length x ≤ 8388608) is t.short in
    let fits : length (bytes_of Second (image_with (parts_of raw))) ≤ longest = size (parts_of raw) t.bytes.in_range short in
    record {
      version = Second;
      is_read = ap (λ (n : NamedImage). read_file (bytes_of Second n)) t.bytes.whole ∙ law Second (parts_of raw) t.bytes.in_range fits;
      image = t.bytes.whole;
    }

pub no_fault : TextsWrittenAreRead → TextsOfImagesHaveNoFault
no_fault law text raw number line t (inl long) = let short = t.short in let more = long.long in omega (arith, short, more)
no_fault law text raw number line t (inr bad) =
    let both : Ok (parts_of raw) ≡ Err (fault number bad.left) = sym (told_is_read law text raw t) ∙ bad.is_read in absurd cc
