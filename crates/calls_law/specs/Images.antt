-- `dis`, `asm` and `migrate` after one another.
use Rattle.std.specs.Prelude.{◌≡◌, ◌≤◌, ℕ, List, length}
use Rattle.image.specs.Bytes.{Second}
use Rattle.image.specs.declared.raw.RawImage.{RawImage}
use Rattle.image_format.specs.FormatLaw.{AreBytes}
use Rattle.assembler.specs.Faults.{longest_text}
use Rattle.command_due.specs.CommandsDue.{IsImageFile, IsMigrateDue, Outcome}
use Rattle.command_due.specs.AsmDue.{IsAsmDue, IsDisDue, keeps}
use Rattle.calls_law.specs.Due.{IsOnly}

-- The law: `dis` and then `asm` come to what `migrate` comes to, where the text that `dis` stores
-- is no longer than a text may be.
abbrev pub DisThenAsmIsMigrate : Type 0
DisThenAsmIsMigrate =
    (bytes text : List ℕ) (outcome : Outcome) → AreBytes bytes → IsDisDue bytes (keeps text) → length text ≤ longest_text
    → IsMigrateDue bytes outcome → IsOnly (IsAsmDue text) outcome

-- The law: `migrate` of a valid image of the second version stores the same bytes.
abbrev pub MigrateKeepsTheSecond : Type 0
MigrateKeepsTheSecond =
    (bytes : List ℕ) (raw : RawImage) (file : IsImageFile bytes raw) → AreBytes bytes → file.held.version ≡ Second
    → IsOnly (IsMigrateDue bytes) (keeps bytes)

-- The law: so do `dis` and then `asm`.
abbrev pub DisThenAsmKeepsTheSecond : Type 0
DisThenAsmKeepsTheSecond =
    (bytes text : List ℕ) (raw : RawImage) (file : IsImageFile bytes raw) → AreBytes bytes → file.held.version ≡ Second
    → IsDisDue bytes (keeps text) → length text ≤ longest_text → IsOnly (IsAsmDue text) (keeps bytes)

-- The law: `asm` and then `dis` store the same text.
abbrev pub AsmThenDisKeeps : Type 0
AsmThenDisKeeps = (text bytes : List ℕ) → IsAsmDue text (keeps bytes) → IsOnly (IsDisDue bytes) (keeps text)
