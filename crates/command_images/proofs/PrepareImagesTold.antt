-- What is due of texts that tell images, and of images whose text is told, by what was answered.
use Rattle.std.proofs.Common.{◌≡◌, ◌<◌, ◌∙◌, ℕ, List, length, map, Ok, Err, inl, inr, refl, sym, subst, ap}
use Rattle.std.specs.Prelude.{Result, IfOk}
use Rattle.std.proofs.lemmas.List.{length-map}
use Rattle.image.specs.Named.{NamedImage}
use Rattle.image.specs.Raw.{monitor_of, named_of, process_of}
use Rattle.image.specs.declared.raw.RawImage.{RawImage}
use Rattle.image_reader.specs.Answer.{Tells, parts_of}
use Rattle.image_reader.specs.declared.fault.ImageFault.{ImageFault}
use Rattle.image_reader.specs.declared.fault.ImageFault.TheVariants as image_fault
use Rattle.asm_format.specs.Text.{text_of}
use Rattle.faulty_part.specs.declared.part.PartFault.{PartFault}
use Rattle.faulty_part.specs.Law.{shown_part}
use Rattle.valid_image.specs.Valid.{IsValid}
use Rattle.message_log.specs.Image.{valid_message}
use Rattle.command_refusals.specs.Told.{IsImageTextTold}
use Rattle.command_images.proofs.Refused.{same_fault}
use Rattle.command_images.specs.Telling.{IsInvalidText, IsValidText, LoadsText}
use Rattle.command_images.specs.declared.telling.ImageTextFault.{ImageTextFault}
use Rattle.command_images.specs.declared.telling.ImageTextFault.TheVariants as text_fault
use Rattle.command_due.specs.CommandsDue.{Outcome, told, stored, image_fault_line, valid_fault_line}
use Rattle.assembler.specs.Faults.{longest_text}
use Rattle.command_due.specs.AsmDue.{keeps, text_fault_line, IsAsmDue, asm_faulty, asm_invalid, assembled, IsDisDue, dis_misread, disassembled}
use Rattle.command_answers.specs.declared.act.PreparedCall.{PreparedCall}
use Rattle.command_answers.specs.declared.status.Status.TheVariants as status
use Rattle.command_answers.specs.Acts.{outcome_of}
use Rattle.command_answers.specs.Acting.{puts}
use Rattle.command_answers.proofs.Coming.{outcome_of_puts}
use Rattle.command_images.specs.Held.{HasNames}

-- ---- `asm`

pub long_text : (text : List ℕ) → longest_text < length text → LoadsText text (Err (text_fault.Text 3 0))
long_text text long = inl (record { long = long; is = refl; nowhere = refl })

pub faulty_image_text : (why : ImageTextFault) (number line : ℕ) → why ≡ text_fault.Text number line → (text : List ℕ) → LoadsText text (Err why) → IsAsmDue text (told 4 (text_fault_line number line))
faulty_image_text why number line is text answer = asm_faulty number line (subst (λ (w : ImageTextFault). LoadsText text (Err w)) is answer) refl

pub invalid_image_text : (why : ImageTextFault) (raw : RawImage) (found : PartFault) → why ≡ text_fault.Invalid raw found → (text : List ℕ) → LoadsText text (Err why)
    → IsAsmDue text (told 4 (valid_fault_line (shown_part found)))
invalid_image_text why raw found is text answer =
    let of : IsInvalidText text raw found = subst (λ (w : ImageTextFault). LoadsText text (Err w)) is answer in
    asm_invalid raw (shown_part found) of.told (same_fault raw found of.first) refl

-- what is told of it
pub invalid_text_told : (why : ImageTextFault) (raw : RawImage) (found : PartFault) → why ≡ text_fault.Invalid raw found → (file message text : List ℕ) → message ≡ valid_message file (named_of raw) found → LoadsText text (Err why)
    → IsImageTextTold file text (told 4 (valid_fault_line (shown_part found))) message
invalid_text_told why raw found is file message text made answer =
    let of : IsInvalidText text raw found = subst (λ (w : ImageTextFault). LoadsText text (Err w)) is answer in
    inr (record { raw = raw; read = of.told; fault = found; first = of.first; put = refl; is = made })

pub refused_text_line : (line : List ℕ) (text : List ℕ) → IsAsmDue text (told 4 line) → IsAsmDue text (outcome_of (puts status.Image line))
refused_text_line line text is = subst (λ (o : Outcome). IsAsmDue text o) (sym (outcome_of_puts status.Image line)) is

pub assembled_image : {E : Type 0} (n : NamedImage) (P : List ℕ → Type 0) (made : Result PreparedCall E) → ((text : List ℕ) → P text → LoadsText text (Ok n))
    → IfOk made (λ act. outcome_of act ≡ keeps (stored n)) → IfOk made (λ act. (text : List ℕ) → P text → IsAsmDue text (outcome_of act))
assembled_image n P (Ok act) loads is = λ text p. (
    let t : IsValidText text n = loads text p in
    assembled t.raw t.told (subst (λ (x : NamedImage). IsValid x.image) t.image t.valid) (is ∙ ap (λ (x : NamedImage). keeps (stored x)) t.image))
assembled_image n P (Err e) loads is = tt

pub refused_asm : {E : Type 0} (why : ImageTextFault) (P : List ℕ → Type 0) (made : Result PreparedCall E) → ((text : List ℕ) → P text → LoadsText text (Err why))
    → IfOk made (λ act. (text : List ℕ) → LoadsText text (Err why) → IsAsmDue text (outcome_of act)) → IfOk made (λ act. (text : List ℕ) → P text → IsAsmDue text (outcome_of act))
refused_asm why P (Ok act) answer due = λ text p. due text (answer text p)
refused_asm why P (Err e) answer due = tt

-- ---- `dis`

-- the parts of an image that bytes hold have names
pub has_names : (bytes : List ℕ) (answer : Result RawImage ImageFault) → Tells bytes answer → IfOk answer HasNames
has_names bytes (Ok raw) is =
    let parts = parts_of raw in
    let monitors : raw.names.monitors ≡ map (λ x. x.0) parts.monitors = ap (λ (n : NamedImage). n.names.monitors) is.image in
    let seen : map monitor_of raw.monitors ≡ map (λ x. x.1) parts.monitors = ap (λ (n : NamedImage). n.image.monitors) is.image in
    let processes : raw.names.processes ≡ map (λ x. x.0) parts.processes = ap (λ (n : NamedImage). n.names.processes) is.image in
    let also : map process_of raw.processes ≡ map (λ x. x.1) parts.processes = ap (λ (n : NamedImage). n.image.processes) is.image in
    record {
      monitors = ap length monitors ∙ (length-map parts.monitors (λ x. x.0) ∙ (sym (length-map parts.monitors (λ x. x.1)) ∙ (sym (ap length seen) ∙ length-map raw.monitors monitor_of)));
      processes = ap length processes ∙ (length-map parts.processes (λ x. x.0) ∙ (sym (length-map parts.processes (λ x. x.1)) ∙ (sym (ap length also) ∙ length-map raw.processes process_of)));
    }
has_names bytes (Err why) is = tt

pub misread_bytes : (why : ImageFault) (number offset : ℕ) → why ≡ image_fault.Bad number offset → (bytes : List ℕ) → Tells bytes (Err why) → IsDisDue bytes (told 4 (image_fault_line number offset))
misread_bytes why number offset is bytes answer = dis_misread number offset (subst (λ (w : ImageFault). Tells bytes (Err w)) is answer) refl

pub refused_bytes_line : (line : List ℕ) (bytes : List ℕ) → IsDisDue bytes (told 4 line) → IsDisDue bytes (outcome_of (puts status.Image line))
refused_bytes_line line bytes is = subst (λ (o : Outcome). IsDisDue bytes o) (sym (outcome_of_puts status.Image line)) is

pub told_image : {E : Type 0} (raw : RawImage) (P : List ℕ → Type 0) (made : Result PreparedCall E) → ((bytes : List ℕ) → P bytes → Tells bytes (Ok raw))
    → IfOk made (λ act. outcome_of act ≡ keeps (text_of (named_of raw))) → IfOk made (λ act. (bytes : List ℕ) → P bytes → IsDisDue bytes (outcome_of act))
told_image raw P (Ok act) loads is = λ bytes p. disassembled raw (loads bytes p) is
told_image raw P (Err e) loads is = tt

pub refused_dis : {E : Type 0} (why : ImageFault) (P : List ℕ → Type 0) (made : Result PreparedCall E) → ((bytes : List ℕ) → P bytes → Tells bytes (Err why))
    → IfOk made (λ act. (bytes : List ℕ) → Tells bytes (Err why) → IsDisDue bytes (outcome_of act)) → IfOk made (λ act. (bytes : List ℕ) → P bytes → IsDisDue bytes (outcome_of act))
refused_dis why P (Ok act) answer due = λ bytes p. due bytes (answer bytes p)
refused_dis why P (Err e) answer due = tt
