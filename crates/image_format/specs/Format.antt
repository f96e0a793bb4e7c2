-- Formats: what the bytes of a thing are, and what is wrong with bytes that are none of it. A
-- format is made of fields, which stand one after the other; each has its range, and may depend on
-- those before it.
use Rattle.std.specs.Prelude.{◌++◌, ◌^◌, ◌&&◌, ◌==◌, ℕ, zero, suc, Bool, true, false, List, [], ◌∷◌, length, take, drop, Result, Ok, Err, Option, Some, None, nat_lt, slice_index, if◌then◌else◌}
use Rattle.std.specs.Int.{w16, w32, from_be_bytes}
use Rattle.image_format.specs.Numbers as written
use Rattle.image_format.specs.declared.fault.ByteFault.{ByteFault}

-- a fault by its number, with how many bytes are left from its place on
abbrev pub fault : (number left : ℕ) → ByteFault
fault number left = record { number = number; left = left }

-- what reading gives: the thing and the bytes left after it, or the first fault
abbrev pub Read : Type 0 → Type 0
Read A = Result (A × List ℕ) ByteFault

infixl 10 ◌>>=◌
abbrev pub ◌>>=◌ : {A B : Type 0} → Result A ByteFault → (A → Result B ByteFault) → Result B ByteFault
(Ok x) >>= f = f x
(Err e) >>= f = Err e

-- a format: how a thing is written, whether it has bytes, and what reading bytes gives
pub record Format (A : Type 0) : Type 0 where
  pub write : A → List ℕ
  pub is : A → Bool
  pub read : List ℕ → Read A

-- ---- fields

-- a field of so many bytes; the only fault is that the bytes end inside it, and its place is their
-- end
abbrev pub field_at : {A : Type 0} → (size : ℕ) → (List ℕ → A) → List ℕ → Read A
field_at size value bytes = if nat_lt (length bytes) size then Err (fault 2 0) else Ok (value (take size bytes), drop size bytes)

-- numbers of one, two and four bytes, the highest first
abbrev pub u8 : Format ℕ
u8 = record { write = written.u8; is = λ n. nat_lt n 256; read = field_at 1 (λ bytes. slice_index bytes 0) }

abbrev pub u16 : Format ℕ
u16 = record { write = written.u16; is = λ n. nat_lt n (2 ^ 16); read = field_at 2 (from_be_bytes w16) }

abbrev pub u32 : Format ℕ
u32 = record { write = written.u32; is = λ n. nat_lt n (2 ^ 32); read = field_at 4 (from_be_bytes w32) }

-- so many bytes as they are
abbrev pub bytes_as_are : ℕ → Format (List ℕ)
bytes_as_are size = record { write = λ bytes. bytes; is = λ bytes. length bytes == size; read = field_at size (λ bytes. bytes) }

-- no bytes: the thing is given by the fields before
abbrev pub given : {A : Type 0} → (same : A → A → Bool) → A → Format A
given same x = record { write = λ y. []; is = same x; read = λ bytes. Ok (x, bytes) }

-- ---- rules

-- what is wrong with a thing: the number of its fault
abbrev pub unless : Bool → (number : ℕ) → Option ℕ
unless true number = None
unless false number = Some number

abbrev pub is_fine : Option ℕ → Bool
is_fine None = true
is_fine (Some number) = false

abbrev pub passed : {A : Type 0} → Option ℕ → (left : ℕ) → A × List ℕ → Read A
passed None left x = Ok x
passed (Some number) left x = Err (fault number left)

-- with a rule of its own, whose fault stands where the thing begins
abbrev pub checked : {A : Type 0} → Format A → (A → Option ℕ) → Format A
checked f wrong = record {
  write = f.write;
  is = λ x. f.is x && is_fine (wrong x);
  read = λ bytes. f.read bytes >>= λ x. passed (wrong x.0) (length bytes) x;
}

-- ---- one after the other

abbrev pub both : {A B : Type 0} → Format A → (A → Format B) → Format (A × B)
both f g = record {
  write = λ x. f.write x.0 ++ (g x.0).write x.1;
  is = λ x. f.is x.0 && (g x.0).is x.1;
  read = λ bytes. f.read bytes >>= λ x. (g x.0).read x.1 >>= λ y. Ok ((x.0, y.0), y.1);
}

-- the same bytes, seen as another thing, where both are one and the same by the test
abbrev pub via : {A B : Type 0} → (A → B) → (B → A) → Format A → Format B
via to from f = record {
  write = λ y. f.write (from y);
  is = λ y. f.is (from y);
  read = λ bytes. f.read bytes >>= λ x. Ok (to x.0, x.1);
}

-- so many things, each by a format that may depend on those before it
abbrev pub each_write : {A : Type 0} → (List A → Format A) → (earlier xs : List A) → List ℕ
each_write f earlier [] = []
each_write f earlier (x ∷ xs) = (f earlier).write x ++ each_write f (earlier ++ x ∷ []) xs

abbrev pub each_is : {A : Type 0} → (List A → Format A) → (earlier : List A) → (count : ℕ) → (xs : List A) → Bool
each_is f earlier zero [] = true
each_is f earlier zero (x ∷ xs) = false
each_is f earlier (suc n) [] = false
each_is f earlier (suc n) (x ∷ xs) = (f earlier).is x && each_is f (earlier ++ x ∷ []) n xs

unfoldable pub each_read : {A : Type 0} → (List A → Format A) → (earlier : List A) → (count : ℕ) → List ℕ → Read (List A)
each_read f earlier zero bytes = Ok ([], bytes)
each_read f earlier (suc n) bytes = do
  x ← (f earlier).read bytes
  xs ← each_read f (earlier ++ x.0 ∷ []) n x.1
  Ok (x.0 ∷ xs.0, xs.1)

abbrev pub each : {A : Type 0} → (List A → Format A) → (earlier : List A) → (count : ℕ) → Format (List A)
each f earlier count = record { write = each_write f earlier; is = each_is f earlier count; read = each_read f earlier count }
