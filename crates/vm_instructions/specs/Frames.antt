-- The frames of a process.
use Rattle.std.specs.Prelude.{◌+◌, ◌++◌, ℕ, ℤ, pos, List, [], ◌∷◌, length}
use Rattle.machine_semantics.specs.State.{Operand, Value, Counter, Caller, stack_below, zeros}
use Rattle.vm_instructions.specs.declared.operand.Operand.{Operand as Kept}
use Rattle.vm_instructions.specs.declared.operand.Operand.TheVariants as kept

-- an operand as the machine's meaning has it
abbrev pub operand_of : Kept → Operand
operand_of (kept.Value z) = Value z
operand_of (kept.Counter n) = Counter n

-- an operand as a value; 0 for a counter
abbrev pub value : Kept → ℤ
value (kept.Value z) = z
value (kept.Counter n) = pos 0

-- the innermost frame and those of the callers, with the words of the stack that there are
pub record Frames : Type 0 where
  pub room : ℕ
  pub locals : List ℤ
  pub operands : List Operand
  pub callers : List Caller

-- with these operands
abbrev pub with_operands : List Operand → Frames → Frames
with_operands operands f = record f { operands = operands }

-- the words of the stack in use
abbrev pub used : Frames → ℕ
used f = length f.locals + length f.operands + stack_below f.callers

-- a new frame: with the values that were taken and so many zeros as its locals, above the frame
-- with the operands that are left
abbrev pub called : ℕ → ℕ → List ℤ × List Operand → Frames → Frames
called back more taken f = record {
  room = f.room;
  locals = taken.0 ++ zeros more;
  operands = [];
  callers = record { back = back; locals = f.locals; operands = taken.1 } ∷ f.callers;
}

-- the top operand is a value
abbrev pub IsValueFirst : List Operand → Type 0
IsValueFirst (Value z ∷ rest) = Unit {0}
IsValueFirst _ = ⊥

-- the top operand is a counter
abbrev pub IsCounterFirst : List Operand → Type 0
IsCounterFirst (Counter n ∷ rest) = Unit {0}
IsCounterFirst _ = ⊥

-- the two top operands are values
abbrev pub AreTwoFirst : List Operand → Type 0
AreTwoFirst (Value y ∷ Value x ∷ rest) = Unit {0}
AreTwoFirst _ = ⊥
