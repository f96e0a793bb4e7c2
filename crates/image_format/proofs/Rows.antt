-- Reading segments one after the other, as a loop does that keeps only what is left.
use Rattle.std.proofs.Common.{◌≡◌, ℕ, suc, ◌-◌, ◌+◌, ◌≤◌, ◌<◌, List, true, false, Result, Ok, Err, refl, sym, ap, ◌∙◌, arith}
use Rattle.std.specs.Result.{is_ok}
use Rattle.machine_semantics.specs.Trees.{Seg, Segs, Nil, Cons}
use Rattle.image_format.specs.declared.fault.ByteFault.{ByteFault}
use Rattle.image_format.specs.Format.{◌>>=◌, Format, Read}
use Rattle.image_format.specs.TreeFormat.{segs_read}
use Rattle.image_format.specs.Rows.{left_of, row_in}

more : (s : Seg) (r : Read Segs) → left_of (r >>= λ rest. Ok (Cons s rest.0, rest.1)) ≡ left_of r
more s (Ok x) = refl
more s (Err e) = refl

-- one more segment was read
pub goes_on : (f : Format Seg) (count i : ℕ) (bytes : List ℕ) (s : Seg) (after : List ℕ) (total : Result (List ℕ) ByteFault) → i < count → f.read bytes ≡ Ok (s, after)
    → left_of (segs_read f (count - i) bytes) ≡ total → left_of (segs_read f (count - (i + 1)) after) ≡ total
unfolding segs_read
goes_on f count i bytes s after total lt h so_far =
    let k : count - i ≡ suc (count - (i + 1)) = omega arith in
    let one : left_of (segs_read f (count - i) bytes) ≡ left_of (segs_read f (count - (i + 1)) after) = rw (k, h) (more s (segs_read f (count - (i + 1)) after)) in
    sym one ∙ so_far

broken : (r : Read Segs) (e : ByteFault) → left_of r ≡ Err e → r ≡ Err e
broken (Ok x) e h = absurd cc
broken (Err f) e h = cc

whole : (r : Read Segs) (rest : List ℕ) → left_of r ≡ Ok rest → r ≡ Ok (row_in r, rest)
whole (Ok x) rest h = ap (λ (bytes : List ℕ). Ok (x.0, bytes)) (inner x.1 rest h) where
  inner : (a b : List ℕ) → left_of (Ok (x.0, a)) ≡ Ok b → a ≡ b
  inner a b h = cc
whole (Err f) rest h = absurd cc

-- the next one has a fault
pub fails : (f : Format Seg) (e : ByteFault) (count i : ℕ) (bytes : List ℕ) (total : Read Segs) → i < count → f.read bytes ≡ Err e
    → left_of (segs_read f (count - i) bytes) ≡ left_of total → total ≡ Err e
unfolding segs_read
fails f e count i bytes total lt h so_far =
    let k : count - i ≡ suc (count - (i + 1)) = omega arith in
    let one : left_of (segs_read f (count - i) bytes) ≡ Err e = rw (k, h) refl in
    broken total e (sym so_far ∙ one)

-- all are read
pub is_done : (f : Format Seg) (count i : ℕ) (bytes : List ℕ) (total : Read Segs) → count ≤ i → left_of (segs_read f (count - i) bytes) ≡ left_of total → total ≡ Ok (row_in total, bytes)
unfolding segs_read
is_done f count i bytes total le so_far =
    let k : count - i ≡ 0 = omega arith in
    let one : left_of (segs_read f (count - i) bytes) ≡ Ok bytes = rw k refl in
    whole total bytes (sym so_far ∙ one)

pub went_well : (r : Read Segs) (x : Segs) (rest : List ℕ) → r ≡ Ok (x, rest) → is_ok r ≡ true
went_well r x rest h = ap is_ok h

-- the first of some segments, and the rest
pub record Split (f : Format Seg) (count : ℕ) (bytes : List ℕ) (s : Seg) (after : List ℕ) : Type 0 where
  pub rest_read : is_ok (segs_read f (count - 1) after) ≡ true
  pub tree : row_in (segs_read f count bytes) ≡ Cons s (row_in (segs_read f (count - 1) after))

-- a segment before those that are read
abbrev onto : Seg → Read Segs → Read Segs
onto s r = r >>= λ rest. Ok (Cons s rest.0, rest.1)

split_of : (s : Seg) (r : Read Segs) → is_ok (onto s r) ≡ true → (is_ok r ≡ true) × (row_in (onto s r) ≡ Cons s (row_in r))
split_of s (Ok x) h = (refl, refl)
split_of s (Err e) h = absurd cc

pub splits : (f : Format Seg) (count : ℕ) (bytes : List ℕ) (s : Seg) (after : List ℕ) → 0 < count → f.read bytes ≡ Ok (s, after) → is_ok (segs_read f count bytes) ≡ true → Split f count bytes s after
unfolding segs_read
splits f count bytes s after pos h well =
    let k : count ≡ suc (count - 1) = omega arith in
    let one : segs_read f count bytes ≡ onto s (segs_read f (count - 1) after) = ap (λ n. segs_read f n bytes) k ∙ ap (λ r. r >>= λ x. segs_read f (count - 1) x.1 >>= λ rest. Ok (Cons x.0 rest.0, rest.1)) h in
    let parts = split_of s (segs_read f (count - 1) after) (sym (ap is_ok one) ∙ well) in
    record { rest_read = parts.0; tree = ap row_in one ∙ parts.1 }

-- a first segment with a fault is none
pub never : (f : Format Seg) (e : ByteFault) (count : ℕ) (bytes : List ℕ) → 0 < count → f.read bytes ≡ Err e → is_ok (segs_read f count bytes) ≡ true → ⊥
unfolding segs_read
never f e count bytes pos h well =
    let k : count ≡ suc (count - 1) = omega arith in
    let one : segs_read f count bytes ≡ Err e = ap (λ n. segs_read f n bytes) k ∙ ap (λ r. r >>= λ x. segs_read f (count - 1) x.1 >>= λ rest. Ok (Cons x.0 rest.0, rest.1)) h in
    let bad : false ≡ true = sym (ap is_ok one) ∙ well in
    cc

-- no segments
pub none_left : (f : Format Seg) (count : ℕ) (bytes : List ℕ) → count ≡ 0 → row_in (segs_read f count bytes) ≡ Nil
unfolding segs_read
none_left f count bytes none = ap (λ n. row_in (segs_read f n bytes)) none
