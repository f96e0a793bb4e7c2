-- Silent steps of one process by the table of instructions, while others may write what it does not
-- reach.
use Rattle.std.specs.Prelude.{◌≡◌, ℕ, true, List, Option, Some, ℤ, pos, slice_get}
use Rattle.machine_isa.specs.declared.instr.Instr.{Instr}
use Rattle.machine_semantics.specs.Image.{Image}
use Rattle.machine_semantics.specs.State.{Operand, State}
use Rattle.machine_semantics.specs.Effect.{Own, Goes, effect, is_reached}
use Rattle.machine_semantics.specs.Tick.{at_next}

-- the words that a process has: those of its innermost frame, its own, and those of all monitors
pub record Words : Type 0 where
  pub locals : List ℤ
  pub owned : List ℤ
  pub shared : List ℤ

abbrev pub words : List ℤ → List ℤ → List ℤ → Words
words locals owned shared = record { locals = locals; owned = owned; shared = shared }

-- a process with these words, that stands at an address with these operands, the top first
abbrev pub stand : Own → Words → ℕ → List Operand → Own
stand o w p os = record {
  job = record (o.job) { place = p; done = 0; locals = w.locals; operands = os };
  owned = w.owned;
  shared = w.shared;
}

-- the words that a process inside this monitor, or none, reaches are the same
abbrev pub SameInside : Image → Option ℕ → (before after : List ℤ) → Type 0
SameInside image inside before after = (w : ℕ) → is_reached image inside (pos w) ≡ true → slice_get after w ≡ slice_get before w

-- the words of all monitors are these now
abbrev pub left_by : List ℤ → Own → Own
left_by us a = record { job = a.job; owned = a.owned; shared = us }

abbrev pub next_own : Own → Own
next_own o = record { job = at_next o.job; owned = o.owned; shared = o.shared }

-- The code leads silently to where the goal holds, whatever others write in the meantime of what
-- the process does not reach.
pub data Runs (image : Image) (Goal : Own → Type 0) : Own → Type 0 where
  arrived : {a : Own} → Goal a → Runs image Goal a
  moved : {a : Own} (j : Instr) (next : List ℤ → Own) → slice_get image.code a.job.place ≡ Some j
      → ((s : State) (us : List ℤ) → SameInside image a.job.inside a.shared us → effect image s j (next_own (left_by us a)) ≡ Goes (next us))
      → ((us : List ℤ) → SameInside image a.job.inside a.shared us → Runs image Goal (next us)) → Runs image Goal a
