-- What is due of bytes, by what was answered of them.
use Rattle.std.proofs.Common.{◌≡◌, ◌<◌, ◌-◌, inr, ℕ, List, length, Some, Ok, Err, Bool, true, refl, sym, subst, ap, ◌∙◌, arith}
use Rattle.std.specs.Prelude.{Result, IfOk, cond, nat_lt}
use Rattle.std.proofs.lemmas.Bool.Decides.{nat_tests}
use Rattle.image.specs.Named.{NamedImage}
use Rattle.image.specs.Raw.{image_of, named_of}
use Rattle.image.specs.declared.raw.RawImage.{RawImage}
use Rattle.image.specs.Bytes.{Version}
use Rattle.image_reader.specs.Answer.{HasFault}
use Rattle.image_reader.specs.File.{Parts, longest, read_file, whole_read}
use Rattle.image_format.specs.Format.{Read, fault}
use Rattle.valid_image.specs.Valid.{fault_of}
use Rattle.faulty_part.specs.declared.part.PartFault.{PartFault}
use Rattle.faulty_part.specs.Law.{shown_if, shown_part}
use Rattle.faulty_part.specs.Parts.{part_fault}
use Rattle.faulty_part.proofs.Whole.{whole}
use Rattle.message_log.specs.Image.{valid_message}
use Rattle.command_refusals.specs.Told.{IsImageTold}
use Rattle.image_loaded.specs.Answers.{IsInvalid, Loads}
use Rattle.image_loaded.specs.Shape.{AreOfValid}
use Rattle.image_loaded.specs.declared.fault.FileFault.{FileFault}
use Rattle.image_loaded.specs.declared.fault.FileFault.TheVariants as file_fault
use Rattle.command_images.proofs.Files.{image_file}
use Rattle.command_due.specs.CommandsDue.{Outcome, told, image_fault_line, valid_fault_line, IsImageRefused, misread, invalid, IsMigrateDue, migrate_refused, migrated, stored}
use Rattle.command_answers.specs.declared.act.PreparedCall.{PreparedCall}
use Rattle.command_answers.specs.declared.status.Status.TheVariants as status
use Rattle.command_answers.specs.Acts.{outcome_of}
use Rattle.command_answers.specs.Acting.{puts}
use Rattle.command_due.specs.AsmDue.{keeps}
use Rattle.command_answers.proofs.Coming.{outcome_of_puts}

-- ---- images

pub long_image : (bytes : List ℕ) → longest < length bytes → HasFault bytes 9 8388608
unfolding read_file
long_image bytes long =
    let test : nat_lt longest (length bytes) ≡ true = grind (arith, nat_tests) in
    record {
      left = length bytes - longest;
      is_read = ap (λ (b : Bool). cond {A = Read (Version × Parts)} b (Err (fault 9 (length bytes - longest))) (whole_read bytes)) test;
      place = omega (arith, long);
    }

pub misread_image : (why : FileFault) (number offset : ℕ) → why ≡ file_fault.Image number offset → (bytes : List ℕ) → Loads bytes (Err why) → IsImageRefused bytes (told 4 (image_fault_line number offset))
misread_image why number offset is bytes answer = misread number offset (subst (λ (w : FileFault). Loads bytes (Err w)) is answer) refl

-- the fault with its part is the fault of the image
pub same_fault : (raw : RawImage) (found : PartFault) → part_fault (image_of raw) ≡ Some found → fault_of (image_of raw) ≡ Some (shown_part found)
same_fault raw found first = sym (whole (image_of raw)) ∙ ap shown_if first

pub invalid_image : (why : FileFault) (raw : RawImage) (found : PartFault) → why ≡ file_fault.Invalid raw found → (bytes : List ℕ) → Loads bytes (Err why)
    → IsImageRefused bytes (told 4 (valid_fault_line (shown_part found)))
invalid_image why raw found is bytes answer =
    let of : IsInvalid bytes raw found = subst (λ (w : FileFault). Loads bytes (Err w)) is answer in
    invalid raw (shown_part found) of.held (same_fault raw found of.first) refl

-- what is told of it
pub invalid_told : (why : FileFault) (raw : RawImage) (found : PartFault) → why ≡ file_fault.Invalid raw found → (file message bytes : List ℕ) → message ≡ valid_message file (named_of raw) found → Loads bytes (Err why)
    → IsImageTold file bytes (told 4 (valid_fault_line (shown_part found))) message
invalid_told why raw found is file message bytes made answer =
    let of : IsInvalid bytes raw found = subst (λ (w : FileFault). Loads bytes (Err w)) is answer in
    inr (record { raw = raw; read = of.held; fault = found; first = of.first; put = refl; is = made })

pub refused_line : (line : List ℕ) (bytes : List ℕ) → IsImageRefused bytes (told 4 line) → IsImageRefused bytes (outcome_of (puts status.Image line))
refused_line line bytes is = subst (λ (o : Outcome). IsImageRefused bytes o) (sym (outcome_of_puts status.Image line)) is

pub migrated_image : {E : Type 0} (n : NamedImage) (P : List ℕ → Type 0) (made : Result PreparedCall E) → ((bytes : List ℕ) → P bytes → AreOfValid bytes n)
    → IfOk made (λ act. outcome_of act ≡ keeps (stored n)) → IfOk made (λ act. (bytes : List ℕ) → P bytes → IsMigrateDue bytes (outcome_of act))
migrated_image n P (Ok act) loads is = λ bytes p. (let file = loads bytes p in migrated file.file.raw (image_file bytes n file) (is ∙ ap (λ (x : NamedImage). keeps (stored x)) file.file.image))
migrated_image n P (Err e) loads is = tt

pub refused_migrate : {E : Type 0} (why : FileFault) (P : List ℕ → Type 0) (made : Result PreparedCall E) → ((bytes : List ℕ) → P bytes → Loads bytes (Err why))
    → IfOk made (λ act. (bytes : List ℕ) → Loads bytes (Err why) → IsImageRefused bytes (outcome_of act)) → IfOk made (λ act. (bytes : List ℕ) → P bytes → IsMigrateDue bytes (outcome_of act))
refused_migrate why P (Ok act) answer due = λ bytes p. migrate_refused (due bytes (answer bytes p))
refused_migrate why P (Err e) answer due = tt
