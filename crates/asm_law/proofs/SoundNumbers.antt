-- The numbers of a line are the decimal text of what is read of them.
use Rattle.std.proofs.Common.{◌≡◌, ◌≤◌, ◌<◌, ◌^◌, ◌+◌, ◌-◌, ◌*◌, ◌++◌, ◌&&◌, ◌==◌, ℕ, zero, suc, ℤ, pos, negsuc, Bool, true, false, List, [], ◌∷◌, length, take, drop, fold, get_or, decimal, Option, Some, None, refl, sym, ap, ◌∙◌, arith}
use Rattle.std.specs.Prelude.{FitsSigned, not, codes, nat_lt, nat_le, if◌then◌else◌}
use Rattle.std.specs.Fmt.{signed_decimal}
use Rattle.std.specs.Int.{IsInRange, w32, cast_signed, cast_unsigned}
use Rattle.std.specs.Ordering.{int_eq}
use Rattle.std.proofs.lemmas.Bool.{ltb-true, lt-ltb, leb-true, eq-eqb, and_parts}
use Rattle.std.proofs.lemmas.Bool.Decides.{Decides-int_eq}
use Rattle.std.proofs.lemmas.Int.{to_z-of_z}
use Rattle.std.proofs.lemmas.List.{take-append-drop, get_or-take}
use Rattle.std.proofs.lemmas.List.Sums.{prefix_len_passes}
use Rattle.std.proofs.lemmas.List.Folds.{length-prefix_len}
use Rattle.text_fields.specs.Fields.{Lacks}
use Rattle.text_fields.proofs.Numerals.{AreDigits, read_on, numeral_is, decimal_lacks}
use Rattle.image_format.specs.Format.{unless, is_fine, u16, u32}
use Rattle.image_format.specs.TreeFormat.{u32_within}
use Rattle.asm_format.specs.TreeText.{field}
use Rattle.text_fields.specs.Front.{Front, begins, moved, noted}
use Rattle.text_fields.specs.LineFields.{is_digit, digits_len, is_numeral, value, small, numeral_read, ranged, number_read, field_read, negative, positive, signed_read}
use Rattle.asm_law.proofs.Took.{Place, Within, Takes, on, shown, refuted, Holds, went, failed, next, choice, mapped}
use Rattle.asm_law.proofs.Passing.{Passes, within, inside, moved_over, skip_took}

-- ---- tests that hold

pub both_true : {a b : Bool} → a ≡ true → b ≡ true → (a && b) ≡ true
both_true p q = rw (p, q) refl

pub fine_of : {b : Bool} (number : ℕ) → b ≡ true → is_fine (unless b number) ≡ true
fine_of number h = rw h refl

-- a number in its field
abbrev pub IsIn : (low high n : ℕ) → Type 0
IsIn low high n = (n < 2 ^ 32) × ((nat_le low n && nat_le n high) ≡ true)

pub u32_is : (low high n : ℕ) → IsIn low high n → (u32_within low high).is n ≡ true
u32_is low high n h = both_true (lt-ltb n (2 ^ 32) h.0) (fine_of 4 h.1)

pub any_u32 : (low high n : ℕ) → IsIn low high n → u32.is n ≡ true
any_u32 low high n h = lt-ltb n (2 ^ 32) h.0

pub at_most : (low high n : ℕ) → IsIn low high n → n ≤ high
at_most low high n h = leb-true n high (and_parts (nat_le low n) (nat_le n high) h.1).1

pub any_u16 : (low n : ℕ) → IsIn low 65535 n → u16.is n ≡ true
any_u16 low n h = let m = at_most low 65535 n h in lt-ltb n (2 ^ 16) (omega (arith, m))

-- ---- digits

digits_are : (bytes : List ℕ) → AreDigits (take (digits_len bytes) bytes)
digits_are bytes i below =
    let low : i < digits_len bytes = omega (arith, below, length-prefix_len is_digit bytes) in
    let same : get_or (take (digits_len bytes) bytes) i 0 ≡ get_or bytes i 0 = get_or-take (digits_len bytes) bytes i 0 low in
    let d = get_or bytes i 0 in
    let p = and_parts (nat_le 48 d) (nat_le d 57) (prefix_len_passes is_digit bytes i 0 low) in
    let from = leb-true 48 d p.0 in
    let to = leb-true d 57 p.1 in
    (omega (arith, same, from), omega (arith, same, to))

value_is : (n : ℕ) (digits : List ℕ) → read_on n digits ≡ fold (λ m d. 10 * m + (d - 48)) n digits
value_is n [] = refl
value_is n (d ∷ ds) = value_is (10 * n + (d - 48)) ds

some_digit : (digits : List ℕ) → is_numeral digits ≡ true → 0 < length digits
some_digit [] h = cc
some_digit (d ∷ ds) h = omega arith

lone_zero : (digits : List ℕ) → is_numeral digits ≡ true → get_or digits 0 0 ≡ 48 → length digits ≡ 1
lone_zero [] h first = cc
lone_zero (d ∷ []) h first = refl
lone_zero (d ∷ e ∷ ds) h first = absurd (let t : (d == 48) ≡ true = eq-eqb d 48 first in let f : not true ≡ true = ap not (sym t) ∙ h in cc)

small_is : (v n : ℕ) → small v ≡ Some n → (v < 2 ^ 32) × (v ≡ n)
small_is v n = by (nat_lt v (2 ^ 32)) refl where
  by : (b : Bool) → nat_lt v (2 ^ 32) ≡ b → (if b then Some v else None) ≡ Some n → (v < 2 ^ 32) × (v ≡ n)
  by true h e = (ltb-true v (2 ^ 32) h, cc)
  by false h e = cc

-- digits that spell a number are its decimal text
numeral_text : (digits : List ℕ) (n : ℕ) → AreDigits digits → is_numeral digits ≡ true → small (value digits) ≡ Some n → (digits ≡ decimal n) × (n < 2 ^ 32)
numeral_text digits n are h is =
    let s = small_is (value digits) n is in
    (numeral_is digits n are (value_is 0 digits ∙ s.1) (some_digit digits h) (lone_zero digits h) (omega (arith, s.0, s.1)), omega (arith, s.0, s.1))

not_ten : ¬ IsInRange 48 57 10
not_ten h = omega arith

pub decimal_plain : (n : ℕ) → n < 2 ^ 32 → Lacks 10 (decimal n)
decimal_plain n low = decimal_lacks 10 n not_ten (omega (arith, low))

-- a number that has 32 bits is read of its text
abbrev pub IsRead : Front → Option ℕ × Front → Type 0
IsRead s x = (n : ℕ) → x.0 ≡ Some n → Takes Within Within 0 s x.1 (decimal n) (n < 2 ^ 32)

pub numeral_took : (s : Front) → Holds (IsRead s) (numeral_read s)
unfolding numeral_read
numeral_took s =
    choice (is_numeral (take (digits_len s.rest) s.rest)) (λ h. went (λ n is. took n (numeral_text (take (digits_len s.rest) s.rest) n (digits_are s.rest) h is))) (λ h. failed)
  where
    took : (n : ℕ) → (take (digits_len s.rest) s.rest ≡ decimal n) × (n < 2 ^ 32) → Takes Within Within 0 s (moved s (drop (digits_len s.rest) s.rest)) (decimal n) (n < 2 ^ 32)
    took n told =
        moved_over s (decimal n) (drop (digits_len s.rest) s.rest) (within (decimal n) (decimal_plain n told.1))
        (sym (take-append-drop (digits_len s.rest) s.rest) ∙ ap (λ (xs : List ℕ). xs ++ drop (digits_len s.rest) s.rest) told.0) told.1

-- ---- numbers in a range

abbrev Numbered : (low high : ℕ) → Front → ℕ × Front → Type 0
Numbered low high s z = Takes Within Within 0 s z.1 (decimal z.0) (IsIn low high z.0)

ranged_took : (low high : ℕ) (s t : Front) (o : Option ℕ) → IsRead s (o, t) → Numbered low high s (ranged low high o t)
ranged_took low high s t None read = refuted t
ranged_took low high s t (Some n) read = by (nat_le low n && nat_le n high) refl where
  by : (b : Bool) → (nat_le low n && nat_le n high) ≡ b → Numbered low high s (if b then (n, t) else (0, noted t false))
  by true h = shown (read n refl) refl (λ below. (below, h))
  by false h = refuted t

number_took : (low high : ℕ) (s : Front) → Holds (Numbered low high s) (number_read low high s)
unfolding number_read
number_took low high s = next (numeral_took s) (λ x read. went (ranged_took low high s x.1 x.0 read))

-- a number within a range behind its label
pub field_took : {p : Place} {k : ℕ} (label : List ℕ) (low high : ℕ) (s : Front) → Passes p Within label k → Holds (λ z. Takes p Within k s z.1 (field label z.0) (IsIn low high z.0)) (field_read label low high s)
unfolding field_read
field_took label low high s passing =
    next (skip_took label s passing) (λ t a. mapped (λ z b. let took = on a b in shown took refl (λ held. held.1)) (number_took low high t))

-- ---- numbers with a sign

-- a signed number of 32 bits
abbrev pub IsWord : ℤ → Type 0
IsWord z = int_eq z (cast_signed w32 (cast_unsigned w32 z)) ≡ true

word_of : (z : ℤ) → FitsSigned w32 z → IsWord z
word_of z fits = (Decides-int_eq z (cast_signed w32 (cast_unsigned w32 z))).1 (sym (to_z-of_z w32 z fits))

positive_word : (n : ℕ) → n < 2 ^ 31 → IsWord (pos n)
positive_word n low = word_of (pos n) (record { sfits = low })

negative_word : (n : ℕ) → n < 2 ^ 31 → IsWord (negsuc n)
negative_word n low = word_of (negsuc n) (record { sfits = low })

abbrev pub Signed : Front → ℤ × Front → Type 0
Signed s z = Takes Within Within 0 s z.1 (signed_decimal z.0) (IsWord z.0)

-- the digits behind a minus
abbrev IsMinus : Front → Option ℕ × Front → Type 0
IsMinus s x = (n : ℕ) → x.0 ≡ Some n → Takes Within Within 0 s x.1 (45 ∷ decimal n) (n < 2 ^ 32)

negative_took : (s t : Front) (o : Option ℕ) → IsMinus s (o, t) → Holds (Signed s) (negative o t)
negative_took s t None read = went (refuted t)
negative_took s t (Some zero) read = failed
negative_took s t (Some (suc n)) read =
    choice (nat_lt n (2 ^ 31)) (λ h. went (shown (read (suc n) refl) refl (λ below. negative_word n (ltb-true n (2 ^ 31) h)))) (λ h. went (refuted t))

positive_took : (s t : Front) (o : Option ℕ) → IsRead s (o, t) → Signed s (positive o t)
positive_took s t None read = refuted t
positive_took s t (Some n) read = by (nat_lt n (2 ^ 31)) refl where
  by : (b : Bool) → nat_lt n (2 ^ 31) ≡ b → Signed s (if b then (pos n, t) else (pos 0, noted t false))
  by true h = shown (read n refl) refl (λ below. positive_word n (ltb-true n (2 ^ 31) h))
  by false h = refuted t

pub signed_took : (s : Front) → Holds (Signed s) (signed_read s)
unfolding signed_read
signed_took s =
    choice (begins (codes "-") s.rest)
    (λ h. next (next (skip_took (codes "-") s (inside (codes "-") refl)) (λ t a. mapped (minus t a) (numeral_took t))) (λ x read. negative_took s x.1 x.0 read))
    (λ h. next (numeral_took s) (λ x read. went (positive_took s x.1 x.0 read)))
  where
    minus : (t : Front) → Takes Within Within 0 s t (codes "-") (Unit {0}) → (x : Option ℕ × Front) → IsRead t x → IsMinus s x
    minus t a x read n is = let took = on a (read n is) in shown took refl (λ held. held.1)
