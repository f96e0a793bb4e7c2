-- The operands of the innermost frame, while instructions follow one another in it.
use Rattle.std.specs.Prelude.{◌≡◌, ◌≤◌, ◌+◌, ℕ, ℤ, List, length, map, reverse, take}
use Rattle.machine_semantics.specs.State.{Operand, Job, stack_below}
use Rattle.machine_semantics.specs.Effect.{Own}
use Rattle.vm_instructions.specs.declared.cursor.Cursor.{Cursor}
use Rattle.vm_instructions.specs.declared.operand.Operand.{Operand as Kept}
use Rattle.vm_instructions.specs.Frames.{operand_of}

-- the first so many operands of a row, the top first
abbrev pub stacked : ℕ → List Kept → List Operand
stacked top row = map operand_of (reverse (take top row))

-- the activation and its words, where its innermost frame stands so
abbrev pub own_in : Job → Cursor → List Kept → (locals owned shared : List ℤ) → Own
own_in j at stack locals owned shared = record { job = record j { place = at.place; done = at.done; locals = locals; operands = stacked at.top stack }; owned = owned; shared = shared }

-- the operands are in the row, which has room for all that the stack of so many words may have
abbrev pub Fits : ℕ → Job → ℕ → List Kept → List ℤ → Type 0
Fits room j top stack locals = (top ≤ length stack) × (room ≤ length stack + length locals + stack_below j.callers)

-- the row is as long as it was, and so many operands are in it
abbrev pub Stays : ℕ → List Kept → List Kept → Type 0
Stays top old new = (length new ≡ length old) × (top ≤ length new)

-- the stack takes no more than so many words
abbrev pub IsWithinRoom : ℕ → Job → ℕ → List ℤ → Type 0
IsWithinRoom room j top locals = length locals + top + stack_below j.callers ≤ room
