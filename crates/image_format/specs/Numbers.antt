-- Numbers and names as bytes.
use Rattle.std.specs.Prelude.{ℕ, Bool, true, false, List, [], ◌∷◌, length}
use Rattle.byteorder.specs.Endian.{big_bytes}

-- a number in one, two or four bytes, the highest of them first
abbrev pub u8 : ℕ → List ℕ
u8 n = n ∷ []

abbrev pub u16 : ℕ → List ℕ
u16 n = big_bytes 2 n

abbrev pub u32 : ℕ → List ℕ
u32 n = big_bytes 4 n

-- 1 where it holds, else 0
abbrev pub flag : Bool → List ℕ
flag true = u8 1
flag false = u8 0

-- one byte of length, and the bytes of the name
abbrev pub name_bytes : List ℕ → List ℕ
name_bytes name = length name ∷ name
