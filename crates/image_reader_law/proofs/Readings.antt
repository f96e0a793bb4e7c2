-- What a reading that went well says of the thing that was read.
use Rattle.std.proofs.Common.{◌≡◌, ◌≤◌, ◌<◌, ◌++◌, ℕ, zero, suc, Bool, true, false, List, [], ◌∷◌, length, Ok, Option, Some, None, refl, ap, subst, arith}
use Rattle.std.specs.Prelude.{◌&&◌, nat_le, nat_lt, slice_get}
use Rattle.std.proofs.lemmas.Bool.Decides.{nat_tests}
use Rattle.image_format.specs.Format.{Format, ◌>>=◌, unless, passed, checked, both, each_read, u16, u32}
use Rattle.image_format.specs.TreeFormat.{within, u32_within, u16_within}
use Rattle.image_format.proofs.Sound.{came}
use Rattle.image_format.proofs.Alike.{same_ok, okay}

pub carried : {A : Type 0} (P : A → Type 0) (x y : A) → okay x ≡ okay y → P x → P y
carried P x y h = subst P (same_ok x y h)

passed_is : {A : Type 0} (w : Option ℕ) (left : ℕ) (x y : A × List ℕ) → passed w left x ≡ Ok y → (w ≡ None) × (x ≡ y)
passed_is None left x y h = (refl, same_ok x y h)
passed_is (Some n) left x y h = absurd cc

-- a thing with a rule of its own keeps it
pub record Kept {A : Type 0} (f : Format A) (wrong : A → Option ℕ) (bytes : List ℕ) (z : A × List ℕ) : Type 0 where
  pub was : f.read bytes ≡ Ok z
  pub fine : wrong z.0 ≡ None

pub kept : {A : Type 0} (f : Format A) (wrong : A → Option ℕ) (bytes : List ℕ) (z : A × List ℕ) → (checked f wrong).read bytes ≡ Ok z → Kept f wrong bytes z
kept f wrong bytes z is =
    let a = came (f.read bytes) (λ x. passed (wrong x.0) (length bytes) x) z is in
    let p = passed_is (wrong a.x.0) (length bytes) a.x z a.then_is in
    subst (λ y. Kept f wrong bytes y) p.1 (record { was = a.was; fine = p.0 })

-- two things, one after the other
pub record Two {A B : Type 0} (f : Format A) (g : A → Format B) (bytes : List ℕ) (z : (A × B) × List ℕ) : Type 0 where
  pub rest : List ℕ
  pub one : f.read bytes ≡ Ok (z.0.0, rest)
  pub two : (g z.0.0).read rest ≡ Ok (z.0.1, z.1)

pub two : {A B : Type 0} (f : Format A) (g : A → Format B) (bytes : List ℕ) (z : (A × B) × List ℕ) → (both f g).read bytes ≡ Ok z → Two f g bytes z
two f g bytes z is =
    let a = came (f.read bytes) (λ x. (g x.0).read x.1 >>= λ y. Ok ((x.0, y.0), y.1)) z is in
    let b = came ((g a.x.0).read a.x.1) (λ y. Ok ((a.x.0, y.0), y.1)) z a.then_is in
    subst (λ y. Two f g bytes y) (same_ok ((a.x.0, b.x.0), b.x.1) z b.then_is) (record { rest = a.x.1; one = a.was; two = b.was })

-- a thing seen as another
pub record Seen {A B : Type 0} (to : A → B) (f : Format A) (bytes : List ℕ) (z : B × List ℕ) : Type 0 where
  pub x : A
  pub was : f.read bytes ≡ Ok (x, z.1)
  pub seen : to x ≡ z.0

pub seen : {A B : Type 0} (to : A → B) (f : Format A) (bytes : List ℕ) (z : B × List ℕ) → (f.read bytes >>= λ x. Ok (to x.0, x.1)) ≡ Ok z → Seen to f bytes z
seen to f bytes z is =
    let a = came (f.read bytes) (λ x. Ok (to x.0, x.1)) z is in
    subst (λ y. Seen to f bytes y) (same_ok (to a.x.0, a.x.1) z a.then_is) (record { x = a.x.0; was = a.was; seen = refl })

-- so many things
pub record OneOf {A : Type 0} (f : List A → Format A) (x : A) : Type 0 where
  pub earlier : List A
  pub bytes : List ℕ
  pub rest : List ℕ
  pub was : (f earlier).read bytes ≡ Ok (x, rest)

pub record Many {A : Type 0} (f : List A → Format A) (count : ℕ) (xs : List A) : Type 0 where
  pub long : length xs ≡ count
  pub each : (k : ℕ) (x : A) → slice_get xs k ≡ Some x → OneOf f x

more : {A : Type 0} (f : List A → Format A) (earlier : List A) (bytes rest : List ℕ) (count : ℕ) (x : A) (xs : List A) → (f earlier).read bytes ≡ Ok (x, rest) → Many f count xs → Many f (suc count) (x ∷ xs)
more {A = A} f earlier bytes rest count x xs is others = record { long = ap (λ n. suc n) others.long; each = one } where
  one : (k : ℕ) (y : A) → slice_get (x ∷ xs) k ≡ Some y → OneOf f y
  one zero y at = let same : x ≡ y = cc in subst (λ v. OneOf f v) same (record { earlier = earlier; bytes = bytes; rest = rest; was = is })
  one (suc k) y at = others.each k y at

pub many : {A : Type 0} (f : List A → Format A) (earlier : List A) (count : ℕ) (bytes : List ℕ) (z : List A × List ℕ) → each_read f earlier count bytes ≡ Ok z → Many f count z.0
unfolding each_read
many f earlier zero bytes z is = subst (λ y. Many f zero y.0) (same_ok ([], bytes) z is) (record { long = refl; each = λ k x at. absurd cc })
many f earlier (suc n) bytes z is =
    let a = came ((f earlier).read bytes) (λ x. each_read f (earlier ++ x.0 ∷ []) n x.1 >>= λ xs. Ok (x.0 ∷ xs.0, xs.1)) z is in
    let b = came (each_read f (earlier ++ a.x.0 ∷ []) n a.x.1) (λ xs. Ok (a.x.0 ∷ xs.0, xs.1)) z a.then_is in
    let others = many f (earlier ++ a.x.0 ∷ []) n a.x.1 b.x b.was in
    carried (λ y. Many f (suc n) y.0) (a.x.0 ∷ b.x.0, b.x.1) z b.then_is (more f earlier bytes a.x.1 n a.x.0 b.x.0 a.was others)

-- ---- ranges

pub fine_is : (b : Bool) (n : ℕ) → unless b n ≡ None → b ≡ true
fine_is true n h = refl
fine_is false n h = absurd cc

pub between : (low high n : ℕ) → within low high n ≡ None → (low ≤ n) × (n ≤ high)
between low high n fine = by (nat_le low n) (nat_le n high) refl refl (fine_is (nat_le low n && nat_le n high) 4 fine) where
  by : (a b : Bool) → nat_le low n ≡ a → nat_le n high ≡ b → (a && b) ≡ true → (low ≤ n) × (n ≤ high)
  by true true up down h = (grind (arith, nat_tests, up), grind (arith, nat_tests, down))
  by true false up down h = absurd cc
  by false b up down h = absurd cc

pub in_u32 : (low high : ℕ) (bytes : List ℕ) (n : ℕ) (rest : List ℕ) → (u32_within low high).read bytes ≡ Ok (n, rest) → (low ≤ n) × (n ≤ high)
in_u32 low high bytes n rest is = between low high n (kept u32 (within low high) bytes (n, rest) is).fine

pub in_u16 : (low high : ℕ) (bytes : List ℕ) (n : ℕ) (rest : List ℕ) → (u16_within low high).read bytes ≡ Ok (n, rest) → (low ≤ n) × (n ≤ high)
in_u16 low high bytes n rest is = between low high n (kept u16 (within low high) bytes (n, rest) is).fine

pub below : (n count number : ℕ) → unless (nat_lt n count) number ≡ None → n < count
below n count number fine = let e : nat_lt n count ≡ true = fine_is (nat_lt n count) number fine in grind (arith, nat_tests, e)
