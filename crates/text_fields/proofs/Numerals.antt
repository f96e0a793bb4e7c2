-- Words that spell numbers, and words that spell none.
use Rattle.std.proofs.Common.{◌≡◌, ◌≢◌, ℕ, ◌+◌, ◌^◌, ◌<◌, ◌≤◌, suc, zero, List, [], ◌∷◌, length, drop, get_or, decimal, ℤ, pos, negsuc, refl, ap, sym, ◌∙◌, arith, rules, subst, Bool, false}
use Rattle.std.specs.Prelude.{◌==◌}
use Rattle.std.proofs.Math.Seq.{drop-cons}
use Rattle.std.specs.Int.{IsInRange}
use Rattle.std.proofs.lemmas.Str.Parse.{IsNumeralModel, numerals_by_fold, tells_by_index}
use Rattle.std.proofs.lemmas.Fmt.{decimal-digits_value, digits_decimal, digits_value-decimal, first_decimal, decimal_nonempty, decimal_digit, decimal_injective}
use Rattle.std.specs.Fmt.{signed_decimal}
use Rattle.text_fields.specs.Fields.{Is32, Lacks}
use Rattle.text_fields.proofs.Digits.{with_digit}

abbrev pub read_on : ℕ → List ℕ → ℕ
read_on n [] = n
read_on n (c ∷ cs) = read_on (with_digit n c) cs

abbrev pub AreDigits : List ℕ → Type 0
AreDigits ds = (i : ℕ) → i < length ds → IsInRange 48 57 (get_or ds i 0)

own : IsNumeralModel AreDigits (read_on 0)
own = numerals_by_fold AreDigits tells_by_index read_on (search rules)

more_digits : (n : ℕ) (digits : List ℕ) → n ≤ read_on n digits
more_digits n [] = omega arith
more_digits n (d ∷ ds) = let more = more_digits (with_digit n d) ds in omega (arith, more)

-- one more digit is read
pub next_digit : (n : ℕ) (digits : List ℕ) (i : ℕ) → i < length digits → read_on n (drop i digits) ≡ read_on (with_digit n (get_or digits i 0)) (drop (i + 1) digits)
next_digit n digits i below =
    let s : suc i ≡ i + 1 = omega arith in
    ap (read_on n) (drop-cons digits i 0 below ∙ ap (λ k. get_or digits i 0 ∷ drop k digits) s)

pub numeral_is : (word : List ℕ) (value : ℕ) → AreDigits word → read_on 0 word ≡ value → 0 < length word → (get_or word 0 0 ≡ 48 → length word ≡ 1) → value < 2 ^ 64 → word ≡ decimal value
numeral_is word value digits is some lead small =
    sym (ap decimal (sym is) ∙ decimal-digits_value own word digits some lead (omega arith))

pub no_empty : (word : List ℕ) (n : ℕ) → n < 2 ^ 64 → length word ≡ 0 → word ≢ decimal n
no_empty word n small none e = let some = decimal_nonempty n small in let l = ap length e in omega (arith, some, l)

pub no_zero_first : (word : List ℕ) (n : ℕ) → n < 2 ^ 64 → get_or word 0 0 ≡ 48 → 1 < length word → word ≢ decimal n
no_zero_first word zero small first long e = let l = ap length (e ∙ decimal_digit 0 (omega arith)) in omega (arith, l)
no_zero_first word (suc n) small first long e =
    let f = first_decimal (suc n) (omega arith) small in let g = ap (λ ds. get_or ds 0 0) e in omega (arith, f, g)

pub no_other : (word : List ℕ) (n i : ℕ) → n < 2 ^ 64 → i < length word → ¬ IsInRange 48 57 (get_or word i 0) → word ≢ decimal n
no_other word n i small below other e =
    other (subst AreDigits (sym e) (digits_decimal own n small) i below)

pub no_more : (word : List ℕ) (n value : ℕ) (rest : List ℕ) → n < 2 ^ 64 → read_on value rest ≡ read_on 0 word → n < value → word ≢ decimal n
no_more word n value rest small read above e =
    let more = more_digits value rest in
    let is = ap (read_on 0) e ∙ digits_value-decimal own n small in
    omega (arith, more, is, read)

not_minus : ¬ IsInRange 48 57 45
not_minus within = omega arith

-- no numeral begins with a minus
pub minus_first : (digits : List ℕ) (n : ℕ) → n < 2 ^ 64 → 45 ∷ digits ≢ decimal n
minus_first digits n small = no_other (45 ∷ digits) n 0 small (omega arith) not_minus

pub negative_none : (digits : List ℕ) → ((n : ℕ) → n ≤ 2147483648 → digits ≢ decimal n) → (z : ℤ) → Is32 z → 45 ∷ digits ≢ signed_decimal z
negative_none digits none (pos n) small e = minus_first digits n (omega arith) e
negative_none digits none (negsuc n) small e = let same : digits ≡ decimal (suc n) = cc in none (suc n) (omega arith) same

pub negative_zero : (digits : List ℕ) → digits ≡ decimal 0 → (z : ℤ) → Is32 z → 45 ∷ digits ≢ signed_decimal z
negative_zero digits zero_is (pos n) small e = minus_first digits n (omega arith) e
negative_zero digits zero_is (negsuc n) small e =
    let same : digits ≡ decimal (suc n) = cc in
    let equal : 0 ≡ suc n = decimal_injective 0 (suc n) (omega arith) (omega arith) (sym zero_is ∙ same) in
    omega arith

pub empty_none : (word : List ℕ) → length word ≡ 0 → (z : ℤ) → Is32 z → word ≢ signed_decimal z
empty_none word none (pos n) small e = no_empty word n (omega arith) none e
empty_none word none (negsuc n) small e = let l = ap length e in omega (arith, l)

-- all digits are read
pub read_end : (value : ℕ) (word : List ℕ) (n : ℕ) → length word ≤ n → read_on value (drop n word) ≡ read_on 0 word → read_on 0 word ≡ value
read_end value word n end read = sym read ∙ ap (read_on value) (drop_all word n end)
  where
    drop_all : (xs : List ℕ) (k : ℕ) → length xs ≤ k → drop k xs ≡ []
    drop_all [] zero h = refl
    drop_all [] (suc k) h = refl
    drop_all (x ∷ xs) zero h = absurd (omega arith)
    drop_all (x ∷ xs) (suc k) h = drop_all xs k (omega arith)

-- what is not empty has a byte
pub grind_some : (word : List ℕ) (empty : Bool) → empty ≡ (length word == 0) → empty ≡ false → 0 < length word
grind_some word empty is not_empty = grind arith

digits_lack : (stop : ℕ) → ¬ IsInRange 48 57 stop → (ds : List ℕ) → AreDigits ds → Lacks stop ds
digits_lack stop other [] digits = tt
digits_lack stop other (d ∷ ds) digits =
    (λ same. other (subst (IsInRange 48 57) same (digits 0 (omega arith))), digits_lack stop other ds (λ i below. digits (suc i) (omega arith)))

-- a numeral has no byte that is no digit
pub decimal_lacks : (stop n : ℕ) → ¬ IsInRange 48 57 stop → n < 2 ^ 64 → Lacks stop (decimal n)
decimal_lacks stop n other small = digits_lack stop other (decimal n) (digits_decimal own n small)

pub signed_lacks : (stop : ℕ) (z : ℤ) → ¬ IsInRange 48 57 stop → 45 ≢ stop → Is32 z → Lacks stop (signed_decimal z)
signed_lacks stop (pos n) other minus small = decimal_lacks stop n other (omega arith)
signed_lacks stop (negsuc n) other minus small = (minus, decimal_lacks stop (suc n) other (omega arith))
