-- Frames as code keeps them.
use Rattle.std.specs.Prelude.{◌≡◌, ◌≤◌, ◌+◌, ◌*◌, ℕ, ℤ, List, [], ◌∷◌, length, reverse, map, take, drop, vec_capacity}
use Rattle.machine_semantics.specs.State.{Operand, Caller}
use Rattle.vm_instructions.specs.declared.operand.Operand.{Operand as Kept}
use Rattle.vm_instructions.specs.declared.frames.Mark.{Mark}
use Rattle.vm_instructions.specs.declared.frames.Frames.TheInside.{Inside}
use Rattle.vm_instructions.specs.Frames.{Frames, operand_of}

-- the places from a up to b of a row
abbrev pub part : {X : Type 0} → ℕ → ℕ → List X → List X
part a b row = drop a (take b row)

-- the operands from place a up to b, the top first
abbrev pub operands_of : ℕ → ℕ → List Kept → List Operand
operands_of a b row = map operand_of (reverse (part a b row))

-- the callers with these marks, the innermost first; its locals end at base, its operands at floor
abbrev pub callers_of : List Mark → List Kept → List ℤ → ℕ → ℕ → List Caller
callers_of [] operands locals base floor = []
callers_of (m ∷ ms) operands locals base floor =
    record { back = m.back; locals = part m.base base locals; operands = operands_of m.floor floor operands } ∷ callers_of ms operands locals m.base m.floor

-- frames by the rows of operands and locals, the marks, and where the innermost frame begins and
-- ends in each row
abbrev pub laid_out : List Kept → List ℤ → List Mark → (floor top base size : ℕ) → Frames
laid_out operands locals marks floor top base size = record {
  room = length operands;
  locals = part base size locals;
  operands = operands_of floor top operands;
  callers = callers_of (reverse marks) operands locals base floor;
}

abbrev pub standing : Inside → Frames
standing s = laid_out s.operands.items s.locals.items s.marks.items s.floor s.top s.base s.size

-- each frame begins no earlier than its caller's
abbrev pub Ascend : List Mark → ℕ → ℕ → Type 0
Ascend [] base floor = (base ≡ 0) × (floor ≡ 0)
Ascend (m ∷ ms) base floor = (m.base ≤ base) × (m.floor ≤ floor) × Ascend ms m.base m.floor

pub record AreLaid (s : Inside) : Type 0 where
  pub locals_begin : s.base ≤ s.size
  pub operands_begin : s.floor ≤ s.top
  pub locals_room : s.size ≤ length s.locals.items
  pub operands_room : s.top ≤ length s.operands.items
  pub same : length s.locals.items ≡ length s.operands.items
  pub marks_room : length s.operands.items ≤ 2 * vec_capacity s.marks
  pub fits : s.size + s.top + 2 * length s.marks.items ≤ length s.operands.items
  pub ascend : Ascend (reverse s.marks.items) s.base s.floor
