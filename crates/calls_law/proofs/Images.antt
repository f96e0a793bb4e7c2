-- Texts and bytes of images, one after the other.
use Rattle.std.proofs.Common.{◌≡◌, ◌≤◌, ◌∙◌, ℕ, List, Some, length, refl, sym, subst, ap, arith}
use Rattle.image.specs.Bytes.{Second, Version, bytes_of}
use Rattle.image.specs.Named.{NamedImage}
use Rattle.image.specs.Raw.{named_of}
use Rattle.image.specs.declared.raw.RawImage.{RawImage}
use Rattle.image_format.specs.FormatLaw.{AreBytes}
use Rattle.image_reader.specs.Answer.{Holds, parts_of}
use Rattle.image_reader.specs.File.{image_with}
use Rattle.image_reader_law.specs.ImageSound.{ImagesReadAreWritten}
use Rattle.image_reader_law.proofs.Fitting.{fit, fits}
use Rattle.image_reader_law.proofs.Held.{ranged}
use Rattle.image_reader_law.proofs.Versions.{fits_again}
use Rattle.asm_format.specs.Text.{text_of}
use Rattle.assembler.specs.Faults.{longest_text}
use Rattle.valid_image.specs.Valid.{IsValid, fault_of}
use Rattle.command_due.specs.CommandsDue.{IsMigrateDue, Outcome, image_fault_line, invalid, migrate_refused, migrated, misread, stored, told, valid_fault_line}
use Rattle.command_due.specs.Texts.{IsTextOf}
use Rattle.command_due.specs.AsmDue.{IsAsmDue, IsDisDue, asm_faulty, asm_invalid, assembled, dis_misread, disassembled, keeps, text_fault_line}
use Rattle.asm_law.specs.AsmLaws.{ImagesToldAreHeld}
use Rattle.command_due_law.specs.DueOnce.{AsmIsOne, DisIsOne, MigrateIsOne}
use Rattle.command_due_law.proofs.DueOnceImages.{held_once, held_or_faulty}
use Rattle.calls_law.specs.Due.{IsOnly}
use Rattle.calls_law.proofs.Outcomes.{image_once}
use Rattle.calls_law.specs.Images.{AsmThenDisKeeps, DisThenAsmIsMigrate, DisThenAsmKeepsTheSecond, MigrateKeepsTheSecond}

-- nothing that is stored is a line of status 4
not_told : (bytes line : List ℕ) → keeps bytes ≡ told 4 line → ⊥
not_told bytes line same = let zero : 0 ≡ 4 = ap (λ (x : Outcome). x.status) same in absurd (omega (arith, zero))

same_bytes : (bytes other : List ℕ) → keeps bytes ≡ keeps other → bytes ≡ other
same_bytes bytes other same = image_once (keeps bytes) (keeps other) bytes other refl refl same

-- ---- `dis` and then `asm`

-- the image of a file is that of its text
text_is : (bytes text : List ℕ) (raw : RawImage) → AreBytes bytes → Holds bytes raw → text ≡ text_of (named_of raw) → length text ≤ longest_text → IsTextOf text raw
text_is bytes text raw are holds is short =
    let ps = parts_of raw in
    record {
      short = short;
      is = is;
      bytes = record { whole = holds.image; in_range = fit Second ps (fits_again holds.version ps (fits holds.version ps (ranged bytes holds.version ps are holds.is_read))) };
    }

-- what `migrate` comes to is due of `asm`
comes : (bytes text : List ℕ) (raw : RawImage) (outcome : Outcome) → Holds bytes raw → IsTextOf text raw → IsMigrateDue bytes outcome → IsAsmDue text outcome
comes bytes text raw outcome holds tells (migrate_refused (misread number offset is was)) = absurd (held_or_faulty bytes raw number offset holds is)
comes bytes text raw outcome holds tells (migrate_refused (invalid other fault held fails was)) =
    asm_invalid raw fault tells (subst (λ (n : NamedImage). fault_of n.image ≡ Some fault) (held_once bytes other raw held holds) fails) was
comes bytes text raw outcome holds tells (migrated other file was) =
    let same : named_of other ≡ named_of raw = held_once bytes other raw file.held holds in
    assembled raw tells (subst (λ (n : NamedImage). IsValid n.image) same file.valid) (was ∙ ap (λ (n : NamedImage). keeps (stored n)) same)

pub dis_then_asm : AsmIsOne → DisThenAsmIsMigrate
dis_then_asm one bytes text outcome are dis short migrates = by dis
  where
    by : IsDisDue bytes (keeps text) → IsOnly (IsAsmDue text) outcome
    by (dis_misread number offset is same) = absurd (not_told text (image_fault_line number offset) same)
    by (disassembled raw holds same) =
        let due : IsAsmDue text outcome = comes bytes text raw outcome holds (text_is bytes text raw are holds (same_bytes text (text_of (named_of raw)) same) short) migrates in
        record { is = due; only = λ other also. one text other outcome also due }

-- ---- the second version

pub migrate_keeps : ImagesReadAreWritten → MigrateIsOne → MigrateKeepsTheSecond
migrate_keeps law one bytes raw file are second =
    let holds = file.held in
    let written : bytes ≡ bytes_of holds.version (image_with (parts_of raw)) = law bytes holds.version (parts_of raw) are holds.is_read in
    let same : bytes ≡ stored (named_of raw) = written ∙ (ap (λ (v : Version). bytes_of v (image_with (parts_of raw))) second ∙ sym (ap (λ (n : NamedImage). bytes_of Second n) holds.image)) in
    let due : IsMigrateDue bytes (keeps bytes) = migrated raw file (ap (λ (bs : List ℕ). keeps bs) same) in
    record { is = due; only = λ other also. one bytes other (keeps bytes) also due }

pub dis_then_asm_keeps : MigrateKeepsTheSecond → DisThenAsmIsMigrate → DisThenAsmKeepsTheSecond
dis_then_asm_keeps keeps_it law bytes text raw file are second dis short =
    law bytes text (keeps bytes) are dis short (keeps_it bytes raw file are second).is

-- ---- `asm` and then `dis`

pub asm_then_dis : ImagesToldAreHeld → DisIsOne → AsmThenDisKeeps
asm_then_dis law one text bytes asm = by asm
  where
    by : IsAsmDue text (keeps bytes) → IsOnly (IsDisDue bytes) (keeps text)
    by (asm_faulty number line is same) = absurd (not_told bytes (text_fault_line number line) same)
    by (asm_invalid raw fault tells fails same) = absurd (not_told bytes (valid_fault_line fault) same)
    by (assembled raw tells valid same) =
        let held : Holds bytes raw = subst (λ (bs : List ℕ). Holds bs raw) (sym (same_bytes bytes (stored (named_of raw)) same)) (law text raw tells) in
        let due : IsDisDue bytes (keeps text) = disassembled raw held (ap (λ (t : List ℕ). keeps t) tells.is) in
        record { is = due; only = λ other also. one bytes other (keeps text) also due }
