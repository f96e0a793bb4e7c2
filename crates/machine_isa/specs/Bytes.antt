-- The 13 bytes of each instruction: its number, and three signed numbers of 32 bits with the
-- highest byte first, of which those that it does not name are 0.
use Rattle.std.specs.Prelude.{◌≡◌, ◌&&◌, ◌||◌, ◌==◌, ℕ, ℤ, pos, List, [], ◌∷◌, flat_map, nat_le, if◌then◌else◌, FitsSigned}
use Rattle.std.specs.Int.{w32, cast_unsigned}
use Rattle.byteorder.specs.Endian.{big_bytes}
use Rattle.machine_isa.specs.declared.instr.Instr.{Instr}
use Rattle.machine_isa.specs.declared.instr.Instr.TheVariants as i

-- its number, from 1 to 48
abbrev pub number : Instr → ℕ
number (i.Push value) = 1
number (i.LoadLocal word) = 2
number (i.StoreLocal word) = 3
number (i.LoadOwn word) = 4
number (i.StoreOwn word) = 5
number (i.LoadMon word) = 6
number (i.StoreMon word) = 7
number (i.LoadLocalAt word low len) = 8
number (i.StoreLocalAt word low len) = 9
number (i.LoadOwnAt word low len) = 10
number (i.StoreOwnAt word low len) = 11
number (i.LoadMonAt word low len) = 12
number (i.StoreMonAt word low len) = 13
number i.Neg = 14
number i.Not = 15
number i.And = 16
number i.Or = 17
number i.Add = 18
number i.Sub = 19
number i.Eq = 20
number i.Ne = 21
number i.Lt = 22
number i.Le = 23
number i.Gt = 24
number i.Ge = 25
number i.Mul = 26
number i.Div = 27
number i.Mod = 28
number (i.Range low high) = 29
number (i.JumpZero to) = 30
number (i.Jump to) = 31
number (i.Repeats turns) = 32
number (i.Repeat to) = 33
number (i.Exit to) = 34
number (i.Call routine) = 35
number i.Return = 36
number i.ReturnValue = 37
number (i.Enter monitor) = 38
number (i.Leave monitor) = 39
number (i.Wait condition limit raised) = 40
number (i.Reenter monitor) = 41
number (i.Signal condition) = 42
number (i.Broadcast condition) = 43
number (i.Empty condition) = 44
number (i.In device) = 45
number (i.Out device) = 46
number (i.Raise raised) = 47
number i.End = 48

-- how many operands the instruction of a number names
abbrev pub arity : (number : ℕ) → ℕ
arity n =
    if (nat_le 14 n && nat_le n 28) || n == 36 || n == 37 || n == 48 then 0
    else (if (nat_le 8 n && nat_le n 13) || n == 40 then 3
    else (if n == 29 then 2 else 1))

-- its three operands: those that it names, then zeros
abbrev pub operands : Instr → List ℤ
operands (i.Push value) = value ∷ pos 0 ∷ pos 0 ∷ []
operands (i.LoadLocal word) = word ∷ pos 0 ∷ pos 0 ∷ []
operands (i.StoreLocal word) = word ∷ pos 0 ∷ pos 0 ∷ []
operands (i.LoadOwn word) = word ∷ pos 0 ∷ pos 0 ∷ []
operands (i.StoreOwn word) = word ∷ pos 0 ∷ pos 0 ∷ []
operands (i.LoadMon word) = word ∷ pos 0 ∷ pos 0 ∷ []
operands (i.StoreMon word) = word ∷ pos 0 ∷ pos 0 ∷ []
operands (i.LoadLocalAt word low len) = word ∷ low ∷ len ∷ []
operands (i.StoreLocalAt word low len) = word ∷ low ∷ len ∷ []
operands (i.LoadOwnAt word low len) = word ∷ low ∷ len ∷ []
operands (i.StoreOwnAt word low len) = word ∷ low ∷ len ∷ []
operands (i.LoadMonAt word low len) = word ∷ low ∷ len ∷ []
operands (i.StoreMonAt word low len) = word ∷ low ∷ len ∷ []
operands i.Neg = pos 0 ∷ pos 0 ∷ pos 0 ∷ []
operands i.Not = pos 0 ∷ pos 0 ∷ pos 0 ∷ []
operands i.And = pos 0 ∷ pos 0 ∷ pos 0 ∷ []
operands i.Or = pos 0 ∷ pos 0 ∷ pos 0 ∷ []
operands i.Add = pos 0 ∷ pos 0 ∷ pos 0 ∷ []
operands i.Sub = pos 0 ∷ pos 0 ∷ pos 0 ∷ []
operands i.Eq = pos 0 ∷ pos 0 ∷ pos 0 ∷ []
operands i.Ne = pos 0 ∷ pos 0 ∷ pos 0 ∷ []
operands i.Lt = pos 0 ∷ pos 0 ∷ pos 0 ∷ []
operands i.Le = pos 0 ∷ pos 0 ∷ pos 0 ∷ []
operands i.Gt = pos 0 ∷ pos 0 ∷ pos 0 ∷ []
operands i.Ge = pos 0 ∷ pos 0 ∷ pos 0 ∷ []
operands i.Mul = pos 0 ∷ pos 0 ∷ pos 0 ∷ []
operands i.Div = pos 0 ∷ pos 0 ∷ pos 0 ∷ []
operands i.Mod = pos 0 ∷ pos 0 ∷ pos 0 ∷ []
operands (i.Range low high) = low ∷ high ∷ pos 0 ∷ []
operands (i.JumpZero to) = to ∷ pos 0 ∷ pos 0 ∷ []
operands (i.Jump to) = to ∷ pos 0 ∷ pos 0 ∷ []
operands (i.Repeats turns) = turns ∷ pos 0 ∷ pos 0 ∷ []
operands (i.Repeat to) = to ∷ pos 0 ∷ pos 0 ∷ []
operands (i.Exit to) = to ∷ pos 0 ∷ pos 0 ∷ []
operands (i.Call routine) = routine ∷ pos 0 ∷ pos 0 ∷ []
operands i.Return = pos 0 ∷ pos 0 ∷ pos 0 ∷ []
operands i.ReturnValue = pos 0 ∷ pos 0 ∷ pos 0 ∷ []
operands (i.Enter monitor) = monitor ∷ pos 0 ∷ pos 0 ∷ []
operands (i.Leave monitor) = monitor ∷ pos 0 ∷ pos 0 ∷ []
operands (i.Wait condition limit raised) = condition ∷ limit ∷ raised ∷ []
operands (i.Reenter monitor) = monitor ∷ pos 0 ∷ pos 0 ∷ []
operands (i.Signal condition) = condition ∷ pos 0 ∷ pos 0 ∷ []
operands (i.Broadcast condition) = condition ∷ pos 0 ∷ pos 0 ∷ []
operands (i.Empty condition) = condition ∷ pos 0 ∷ pos 0 ∷ []
operands (i.In device) = device ∷ pos 0 ∷ pos 0 ∷ []
operands (i.Out device) = device ∷ pos 0 ∷ pos 0 ∷ []
operands (i.Raise raised) = raised ∷ pos 0 ∷ pos 0 ∷ []
operands i.End = pos 0 ∷ pos 0 ∷ pos 0 ∷ []

-- a signed number by two's complement, the highest byte first
abbrev pub word_bytes : ℤ → List ℕ
word_bytes z = big_bytes 4 (cast_unsigned w32 z)

abbrev pub instr_bytes : Instr → List ℕ
instr_bytes instr = number instr ∷ flat_map word_bytes (operands instr)

-- its operands are signed numbers of 32 bits
abbrev pub AreWords : List ℤ → Type 0
AreWords [] = Unit {0}
AreWords (z ∷ zs) = FitsSigned w32 z × AreWords zs

abbrev pub HasWords : Instr → Type 0
HasWords instr = AreWords (operands instr)

-- no two instructions have the same bytes
abbrev pub AreDistinct : Type 0
AreDistinct = (a b : Instr) → HasWords a → HasWords b → instr_bytes a ≡ instr_bytes b → a ≡ b
