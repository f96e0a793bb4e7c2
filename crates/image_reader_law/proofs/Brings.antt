-- What a format brings: the thing that is read keeps to a fact, and of at most so many bytes no more are left.
use Rattle.std.proofs.Common.{◌≡◌, ◌≤◌, ◌<◌, ◌++◌, ℕ, zero, suc, Bool, true, false, List, [], ◌∷◌, length, Ok, Err, Option, Some, None, take, drop, refl, sym, ap, ◌∙◌, subst, arith, length-drop}
use Rattle.std.specs.Prelude.{nat_lt, slice_index, if◌then◌else◌}
use Rattle.std.specs.Int.{w16, w32, from_be_bytes}
use Rattle.std.specs.List.{All}
use Rattle.std.proofs.lemmas.List.{length-take}
use Rattle.image_format.specs.Format.{Format, Read, ◌>>=◌, fault, field_at, u8, u16, u32, bytes_as_are, given, passed, checked, both, via, each, each_read}
use Rattle.image_format.specs.TreeFormat.{within, u32_within, u16_within}
use Rattle.image_format.proofs.Sound.{came}
use Rattle.image_reader_law.proofs.Readings.{kept, two, seen, between}
use Rattle.image_format.proofs.Alike.{same_ok}

pub record Brings {A : Type 0} (n : ℕ) (f : Format A) (P : A → Type 0) : Type 0 where
  pub told : (bytes : List ℕ) (z : A × List ℕ) → length bytes ≤ n → f.read bytes ≡ Ok z → P z.0 × (length z.1 ≤ n)

abbrev pub Any : {A : Type 0} → A → Type 0
Any x = Unit {0}

pub weaker : {A : Type 0} {n : ℕ} {f : Format A} {P : A → Type 0} (Q : A → Type 0) → ((x : A) → P x → Q x) → Brings n f P → Brings n f Q
weaker Q more b = record { told = λ bytes z few is. let a = b.told bytes z few is in (more z.0 a.0, a.1) }

-- ---- fields

fewer : {A : Type 0} (n size : ℕ) (value : List ℕ → A) (bytes : List ℕ) (z : A × List ℕ) → length bytes ≤ n → field_at size value bytes ≡ Ok z → length z.1 ≤ n
fewer {A = A} n size value bytes z few is = by (nat_lt (length bytes) size) is where
  by : (b : Bool) → (if b then Err (fault 2 0) else Ok (value (take size bytes), drop size bytes)) ≡ Ok z → length z.1 ≤ n
  by true e = absurd cc
  by false e =
      subst (λ (y : A × List ℕ). length y.1 ≤ n) (same_ok (value (take size bytes), drop size bytes) z e) (omega (arith, few, length-drop size bytes))

pub u8_brings : {n : ℕ} → Brings n u8 Any
u8_brings {n = n} = record { told = λ bytes z few is. (tt, fewer n 1 (λ all. slice_index all 0) bytes z few is) }

pub u16_brings : {n : ℕ} → Brings n u16 Any
u16_brings {n = n} = record { told = λ bytes z few is. (tt, fewer n 2 (from_be_bytes w16) bytes z few is) }

pub u32_brings : {n : ℕ} → Brings n u32 Any
u32_brings {n = n} = record { told = λ bytes z few is. (tt, fewer n 4 (from_be_bytes w32) bytes z few is) }

pub word_brings : {A : Type 0} {n : ℕ} (f : Format A) (value : List ℕ → A) → ((bytes : List ℕ) → f.read bytes ≡ field_at 4 value bytes) → Brings n f Any
word_brings {n = n} f value same = record { told = λ bytes z few is. (tt, fewer n 4 value bytes z few (sym (same bytes) ∙ is)) }

pub bytes_brings : {n : ℕ} (size : ℕ) → Brings n (bytes_as_are size) (λ bytes. length bytes ≤ size)
bytes_brings {n = n} size = record { told = λ bytes z few is. by bytes z few (nat_lt (length bytes) size) is } where
  by : (bytes : List ℕ) (z : List ℕ × List ℕ) → length bytes ≤ n → (b : Bool) → (if b then Err (fault 2 0) else Ok (take size bytes, drop size bytes)) ≡ Ok z → (length z.0 ≤ size) × (length z.1 ≤ n)
  by bytes z few true e = absurd cc
  by bytes z few false e =
      subst (λ (y : List ℕ × List ℕ). (length y.0 ≤ size) × (length y.1 ≤ n)) (same_ok (take size bytes, drop size bytes) z e)
      (omega (arith, length-take size bytes), omega (arith, few, length-drop size bytes))

pub given_brings : {A : Type 0} {n : ℕ} (same : A → A → Bool) (x : A) → Brings n (given same x) (λ y. y ≡ x)
given_brings {A = A} {n = n} same x = record { told = λ bytes z few is. subst (λ (y : A × List ℕ). (y.0 ≡ x) × (length y.1 ≤ n)) (same_ok (x, bytes) z is) (refl, few) }

-- ---- what is made of formats

pub checked_brings : {A : Type 0} {n : ℕ} {f : Format A} {P : A → Type 0} (wrong : A → Option ℕ) → Brings n f P → Brings n (checked f wrong) (λ x. P x × (wrong x ≡ None))
checked_brings {f = f} wrong b = record {
  told = λ bytes z few is.
      let k = kept f wrong bytes z is in
      let a = b.told bytes z few k.was in
      ((a.0, k.fine), a.1);
}

pub checked_any : {A : Type 0} {n : ℕ} {f : Format A} {P : A → Type 0} (wrong : A → Option ℕ) → Brings n f P → Brings n (checked f wrong) P
checked_any wrong b = weaker _ (λ x h. h.0) (checked_brings wrong b)

pub both_brings : {A B : Type 0} {n : ℕ} {f : Format A} {P : A → Type 0} (g : A → Format B) (Q : A → B → Type 0) → Brings n f P → ((x : A) → P x → Brings n (g x) (Q x)) → Brings n (both f g) (λ z. P z.0 × Q z.0 z.1)
both_brings {f = f} g Q first second = record {
  told = λ bytes z few is.
      let t = two f g bytes z is in
      let a = first.told bytes (z.0.0, t.rest) few t.one in
      let b = (second z.0.0 a.0).told t.rest (z.0.1, z.1) a.1 t.two in
      ((a.0, b.0), b.1);
}

-- where the second does not depend on the first
pub then_brings : {A B : Type 0} {n : ℕ} {f : Format A} {g : Format B} {P : A → Type 0} {Q : B → Type 0} → Brings n f P → Brings n g Q → Brings n (both f (λ x. g)) (λ z. P z.0 × Q z.1)
then_brings {g = g} {Q = Q} first second = both_brings (λ x. g) (λ x. Q) first (λ x h. second)

pub via_brings : {A B : Type 0} {n : ℕ} {f : Format A} {P : A → Type 0} (to : A → B) (from : B → A) (Q : B → Type 0) → ((x : A) → P x → Q (to x)) → Brings n f P → Brings n (via to from f) Q
via_brings {f = f} to from Q sees b = record {
  told = λ bytes z few is.
      let s = seen to f bytes z is in
      let a = b.told bytes (s.x, z.1) few s.was in
      (subst Q s.seen (sees s.x a.0), a.1);
}

-- ---- ranges

pub u32_brings_within : {n : ℕ} (low high : ℕ) → Brings n (u32_within low high) (λ x. x ≤ high)
u32_brings_within low high = weaker (λ x. x ≤ high) (λ x h. (between low high x h.1).1) (checked_brings (within low high) u32_brings)

pub u16_brings_within : {n : ℕ} (low high : ℕ) → Brings n (u16_within low high) (λ x. x ≤ high)
u16_brings_within low high = weaker (λ x. x ≤ high) (λ x h. (between low high x h.1).1) (checked_brings (within low high) u16_brings)

-- ---- so many things

pub All-none : {A : Type 0} (P : A → Type 0) → All P []
All-none P k d low = absurd (omega (arith, low))

pub All-more : {A : Type 0} (P : A → Type 0) (x : A) (xs : List A) → P x → All P xs → All P (x ∷ xs)
All-more P x xs one others zero d low = one
All-more P x xs one others (suc k) d low = others k d (omega (arith, low))

abbrev pub Each : {A : Type 0} → (A → Type 0) → (count : ℕ) → List A → Type 0
Each P count xs = All P xs × (length xs ≡ count)

each_more : {A : Type 0} (P : A → Type 0) (count : ℕ) (x : A) (xs : List A) → P x → Each P count xs → Each P (suc count) (x ∷ xs)
each_more P count x xs one others = (All-more P x xs one others.0, ap (λ k. suc k) others.1)

each_told : {A : Type 0} (n : ℕ) (f : List A → Format A) (P : A → Type 0) → ((earlier : List A) → Brings n (f earlier) P) → (earlier : List A) (count : ℕ) (bytes : List ℕ) (z : List A × List ℕ) → length bytes ≤ n → each_read f earlier count bytes ≡ Ok z
    → Each P count z.0 × (length z.1 ≤ n)
unfolding each_read
each_told {A = A} n f P brings earlier zero bytes z few is =
    subst (λ (y : List A × List ℕ). Each P zero y.0 × (length y.1 ≤ n)) (same_ok ([], bytes) z is) ((All-none P, refl), few)
each_told {A = A} n f P brings earlier (suc count) bytes z few is =
    let a = came ((f earlier).read bytes) (λ x. each_read f (earlier ++ x.0 ∷ []) count x.1 >>= λ xs. Ok (x.0 ∷ xs.0, xs.1)) z is in
    let b = came (each_read f (earlier ++ a.x.0 ∷ []) count a.x.1) (λ xs. Ok (a.x.0 ∷ xs.0, xs.1)) z a.then_is in
    let one = (brings earlier).told bytes a.x few a.was in
    let others = each_told n f P brings (earlier ++ a.x.0 ∷ []) count a.x.1 b.x one.1 b.was in
    subst (λ (y : List A × List ℕ). Each P (suc count) y.0 × (length y.1 ≤ n)) (same_ok (a.x.0 ∷ b.x.0, b.x.1) z b.then_is)
    (each_more P count a.x.0 b.x.0 one.0 others.0, others.1)

pub each_brings : {A : Type 0} {n : ℕ} (f : List A → Format A) (P : A → Type 0) → ((earlier : List A) → Brings n (f earlier) P) → (earlier : List A) (count : ℕ) → Brings n (each f earlier count) (Each P count)
each_brings {n = n} f P brings earlier count = record { told = each_told n f P brings earlier count }
