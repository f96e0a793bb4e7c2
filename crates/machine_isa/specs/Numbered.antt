-- The instruction with a number and three operands, whether or not it names them all.
use Rattle.std.specs.Prelude.{◌+◌, ℕ, zero, suc, ℤ, List, [], ◌∷◌, Option, None, slice_get, slice_index}
use Rattle.std.specs.Int.{w32, cast_signed, from_be_bytes}
use Rattle.machine_isa.specs.declared.instr.Instr.{Instr}
use Rattle.machine_isa.specs.declared.instr.Instr.TheVariants as i

-- all instructions, by their numbers from 1
abbrev pub in_order : ℤ → ℤ → ℤ → List Instr
in_order a b c =
    i.Push a ∷ i.LoadLocal a ∷ i.StoreLocal a ∷ i.LoadOwn a ∷ i.StoreOwn a ∷ i.LoadMon a
    ∷ i.StoreMon a ∷ i.LoadLocalAt a b c ∷ i.StoreLocalAt a b c ∷ i.LoadOwnAt a b c ∷ i.StoreOwnAt a b c ∷ i.LoadMonAt a b c
    ∷ i.StoreMonAt a b c ∷ i.Neg ∷ i.Not ∷ i.And ∷ i.Or ∷ i.Add
    ∷ i.Sub ∷ i.Eq ∷ i.Ne ∷ i.Lt ∷ i.Le ∷ i.Gt
    ∷ i.Ge ∷ i.Mul ∷ i.Div ∷ i.Mod ∷ i.Range a b ∷ i.JumpZero a
    ∷ i.Jump a ∷ i.Repeats a ∷ i.Repeat a ∷ i.Exit a ∷ i.Call a ∷ i.Return
    ∷ i.ReturnValue ∷ i.Enter a ∷ i.Leave a ∷ i.Wait a b c ∷ i.Reenter a ∷ i.Signal a
    ∷ i.Broadcast a ∷ i.Empty a ∷ i.In a ∷ i.Out a ∷ i.Raise a ∷ i.End
    ∷ []

abbrev pub numbered : ℕ → ℤ → ℤ → ℤ → Option Instr
numbered zero a b c = None
numbered (suc n) a b c = slice_get (in_order a b c) n

-- the four bytes from a place on as a signed number, the highest byte first
abbrev pub word_at : List ℕ → ℕ → ℤ
word_at bytes k = cast_signed w32 (from_be_bytes w32 (slice_index bytes k ∷ slice_index bytes (k + 1) ∷ slice_index bytes (k + 2) ∷ slice_index bytes (k + 3) ∷ []))

-- the instruction that the first byte and the next three words give
abbrev pub named_by : List ℕ → Option Instr
named_by bytes = numbered (slice_index bytes 0) (word_at bytes 1) (word_at bytes 5) (word_at bytes 9)
