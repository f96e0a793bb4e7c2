-- Calls that are numbered from 1, some of which fail by their number, and what such calls answer.
use Rattle.std.specs.Prelude.{◌≡◌, ◌==◌, ◌≤◌, ◌<◌, ◌⊎◌, ℕ, Bool, true, false, List, length, Option, Some, None, Result, Ok, Err, Vec}
use Rattle.std.specs.Global.{Global}
use Rattle.std.specs.List.{list_any}
use Rattle.out_of_memory.specs.Refused.{refused}
use Rattle.outside.specs.declared.outside.ReadFault.{ReadFault}
use Rattle.outside.specs.declared.outside.ReadFault.TheVariants as read
use Rattle.outside.specs.declared.outside.WriteFault.{WriteFault}
use Rattle.outside.specs.declared.outside.WriteFault.TheVariants as write
use Rattle.outside.specs.Outside.{next_count}

-- how many calls of a kind there have been, and the numbers of those that fail
pub record Calls : Type 0 where
  pub made : ℕ
  pub failing : List ℕ

-- after one call more; the number of calls stops at the greatest u64
abbrev pub next : Calls → Calls
next calls = record { made = next_count calls.made; failing = calls.failing }

-- whether the number of the next call stands in the list
abbrev pub next_fails : Calls → Bool
next_fails calls = list_any (λ number. number == (next calls).made) calls.failing

-- the answer of a read that fails, or that finds no memory to keep its failure
abbrev pub HasFailed : Result (Vec ℕ Global) ReadFault → Type 0
HasFailed answer = (answer ≡ Err read.Failed) ⊎ (answer ≡ Err (read.Memory refused))

-- the answer of a read that does not fail: the bytes where they are at most `most`, and Long where
-- they are more, but for want of memory
abbrev pub ReadsAs : List ℕ → (most : ℕ) → Result (Vec ℕ Global) ReadFault → Type 0
ReadsAs bytes most (Ok got) = (got.items ≡ bytes) × (length bytes ≤ most)
ReadsAs bytes most (Err read.Failed) = ⊥
ReadsAs bytes most (Err read.Long) = most < length bytes
ReadsAs bytes most (Err (read.Memory _)) = Unit {0}

-- the answer of a read: it fails if it is to fail, or if the name is missing
abbrev pub ReadAnswers : (fails : Bool) → Option (List ℕ) → (most : ℕ) → Result (Vec ℕ Global) ReadFault → Type 0
ReadAnswers true held most answer = HasFailed answer
ReadAnswers false None most answer = HasFailed answer
ReadAnswers false (Some bytes) most answer = ReadsAs bytes most answer

-- the answer of a write: Failed comes where it is to fail, and Ok where it is not, but for want of
-- memory
abbrev pub WriteAnswers : (fails : Bool) → Result (Unit {0}) WriteFault → Type 0
WriteAnswers true answer = (answer ≡ Err write.Failed) ⊎ (answer ≡ Err (write.Memory refused))
WriteAnswers false answer = (answer ≡ Ok tt) ⊎ (answer ≡ Err (write.Memory refused))

-- whether the answer of a read is Failed
abbrev pub read_failed : Result (Vec ℕ Global) ReadFault → Bool
read_failed (Ok got) = false
read_failed (Err read.Failed) = true
read_failed (Err read.Long) = false
read_failed (Err (read.Memory _)) = false

-- whether the answer of a write is Failed
abbrev pub write_failed : Result (Unit {0}) WriteFault → Bool
write_failed (Ok done) = false
write_failed (Err write.Failed) = true
write_failed (Err (write.Memory _)) = false
