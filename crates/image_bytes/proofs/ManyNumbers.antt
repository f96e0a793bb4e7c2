-- Reading numbers one after the other, as a loop does that keeps only what is left.
use Rattle.std.proofs.Common.{◌≡◌, ℕ, zero, suc, ◌-◌, ◌+◌, ◌≤◌, ◌<◌, List, [], ◌∷◌, length, true, false, Result, Ok, Err, refl, sym, ap, ◌∙◌, arith}
use Rattle.std.specs.Result.{is_ok}
use Rattle.image_format.specs.declared.fault.ByteFault.{ByteFault}
use Rattle.image_format.specs.Format.{◌>>=◌, Read, u16}
use Rattle.image_format.specs.Rows.{left_of}
use Rattle.image_bytes.specs.Fields.{numbers_read}
use Rattle.image_bytes.specs.Standing.{read_or}

-- a number before those that are read
abbrev onto : ℕ → Read (List ℕ) → Read (List ℕ)
onto n r = r >>= λ rest. Ok (n ∷ rest.0, rest.1)

more : (n : ℕ) (r : Read (List ℕ)) → left_of (onto n r) ≡ left_of r
more n (Ok x) = refl
more n (Err e) = refl

-- one more number was read
pub goes_on : (count i : ℕ) (bytes : List ℕ) (n : ℕ) (after : List ℕ) (total : Result (List ℕ) ByteFault) → i < count → u16.read bytes ≡ Ok (n, after)
    → left_of (numbers_read (count - i) bytes) ≡ total → left_of (numbers_read (count - (i + 1)) after) ≡ total
unfolding numbers_read
goes_on count i bytes n after total lt h so_far =
    let k : count - i ≡ suc (count - (i + 1)) = omega arith in
    let one : left_of (numbers_read (count - i) bytes) ≡ left_of (numbers_read (count - (i + 1)) after) = rw (k, h) (more n (numbers_read (count - (i + 1)) after)) in
    sym one ∙ so_far

broken : (r : Read (List ℕ)) (e : ByteFault) → left_of r ≡ Err e → r ≡ Err e
broken (Ok x) e h = absurd cc
broken (Err f) e h = cc

whole : (r : Read (List ℕ)) (rest : List ℕ) → left_of r ≡ Ok rest → r ≡ Ok (read_or [] r, rest)
whole (Ok x) rest h = ap (λ (bytes : List ℕ). Ok (x.0, bytes)) (inner x.1 rest h) where
  inner : (a b : List ℕ) → left_of (Ok (x.0, a)) ≡ Ok b → a ≡ b
  inner a b h = cc
whole (Err f) rest h = absurd cc

-- the next one has a fault
pub fails : (e : ByteFault) (count i : ℕ) (bytes : List ℕ) (total : Read (List ℕ)) → i < count → u16.read bytes ≡ Err e
    → left_of (numbers_read (count - i) bytes) ≡ left_of total → total ≡ Err e
unfolding numbers_read
fails e count i bytes total lt h so_far =
    let k : count - i ≡ suc (count - (i + 1)) = omega arith in
    let one : left_of (numbers_read (count - i) bytes) ≡ Err e = rw (k, h) refl in
    broken total e (sym so_far ∙ one)

-- all are read
pub is_done : (count i : ℕ) (bytes : List ℕ) (total : Read (List ℕ)) → count ≤ i → left_of (numbers_read (count - i) bytes) ≡ left_of total → total ≡ Ok (read_or [] total, bytes)
unfolding numbers_read
is_done count i bytes total le so_far =
    let k : count - i ≡ 0 = omega arith in
    let one : left_of (numbers_read (count - i) bytes) ≡ Ok bytes = rw k refl in
    whole total bytes (sym so_far ∙ one)

pub went_well : (r : Read (List ℕ)) (x : List ℕ) (rest : List ℕ) → r ≡ Ok (x, rest) → is_ok r ≡ true
went_well r x rest h = ap is_ok h

-- the first of some numbers, and the rest
pub record Split (count : ℕ) (bytes : List ℕ) (n : ℕ) (after : List ℕ) : Type 0 where
  pub rest_read : is_ok (numbers_read (count - 1) after) ≡ true
  pub numbers : read_or [] (numbers_read count bytes) ≡ n ∷ read_or [] (numbers_read (count - 1) after)

split_of : (n : ℕ) (r : Read (List ℕ)) → is_ok (onto n r) ≡ true → (is_ok r ≡ true) × (read_or [] (onto n r) ≡ n ∷ read_or [] r)
split_of n (Ok x) h = (refl, refl)
split_of n (Err e) h = absurd cc

pub splits : (count : ℕ) (bytes : List ℕ) (n : ℕ) (after : List ℕ) → 0 < count → u16.read bytes ≡ Ok (n, after) → is_ok (numbers_read count bytes) ≡ true → Split count bytes n after
unfolding numbers_read
splits count bytes n after pos h well =
    let k : count ≡ suc (count - 1) = omega arith in
    let one : numbers_read count bytes ≡ onto n (numbers_read (count - 1) after) = ap (λ m. numbers_read m bytes) k ∙ ap (λ r. r >>= λ x. onto x.0 (numbers_read (count - 1) x.1)) h in
    let parts = split_of n (numbers_read (count - 1) after) (sym (ap is_ok one) ∙ well) in
    record { rest_read = parts.0; numbers = ap (read_or []) one ∙ parts.1 }

-- a first number with a fault is none
pub never : (e : ByteFault) (count : ℕ) (bytes : List ℕ) → 0 < count → u16.read bytes ≡ Err e → is_ok (numbers_read count bytes) ≡ true → ⊥
unfolding numbers_read
never e count bytes pos h well =
    let k : count ≡ suc (count - 1) = omega arith in
    let one : numbers_read count bytes ≡ Err e = ap (λ m. numbers_read m bytes) k ∙ ap (λ r. r >>= λ x. onto x.0 (numbers_read (count - 1) x.1)) h in
    let bad : false ≡ true = sym (ap is_ok one) ∙ well in
    cc

-- no numbers
pub none_left : (count : ℕ) (bytes : List ℕ) → count ≡ 0 → read_or [] (numbers_read count bytes) ≡ []
unfolding numbers_read
none_left count bytes none = ap (λ m. read_or [] (numbers_read m bytes)) none

long : (n : ℕ) (r : Read (List ℕ)) (count : ℕ) → (is_ok r ≡ true → length (read_or [] r) ≡ count) → is_ok (onto n r) ≡ true → length (read_or [] (onto n r)) ≡ suc count
long n (Ok x) count ih h = ap (λ m. suc m) (ih refl)
long n (Err e) count ih h = absurd cc

first_long : (r : Read ℕ) (count : ℕ) → ((bytes : List ℕ) → is_ok (numbers_read count bytes) ≡ true → length (read_or [] (numbers_read count bytes)) ≡ count)
    → is_ok (r >>= λ x. onto x.0 (numbers_read count x.1)) ≡ true → length (read_or [] (r >>= λ x. onto x.0 (numbers_read count x.1))) ≡ suc count
first_long (Ok x) count ih h = long x.0 (numbers_read count x.1) count (ih x.1) h
first_long (Err e) count ih h = absurd cc

-- as many as are read
pub many : (count : ℕ) (bytes : List ℕ) → is_ok (numbers_read count bytes) ≡ true → length (read_or [] (numbers_read count bytes)) ≡ count
unfolding numbers_read
many zero bytes h = refl
many (suc count) bytes h = first_long (u16.read bytes) count (many count) h
