-- Places in a text, words that stand there, and numbers: what was written is read.
use Rattle.std.proofs.Common.{◌≡◌, ◌≤◌, ◌<◌, ◌+◌, ◌-◌, ◌*◌, ◌^◌, ◌%◌, ◌/◌, ◌++◌, ℕ, zero, suc, ℤ, pos, negsuc, Bool, true, false, List, [], ◌∷◌, length, take, fold, get_or, Ok, Some, decimal, refl, sym, ap, ◌∙◌, arith, length-append}
use Rattle.std.specs.Prelude.{nat_lt, nat_eq, codes, if◌then◌else◌}
use Rattle.std.specs.List.{list_all, prefix_len}
use Rattle.std.specs.Fmt.{signed_decimal}
use Rattle.std.specs.Cmp.Lexicographic.{pointwise}
use Rattle.std.proofs.Math.Seq.{take-append_seam, drop-append_seam}
use Rattle.std.proofs.lemmas.Bool.{and_parts, and_from, false≢true, lt-ltb, le-leb, le-ltb, ne_eqb}
use Rattle.std.proofs.lemmas.Cmp.{nat_list_eq_equiv}
use Rattle.std.proofs.lemmas.Fmt.{decimal_by_steps, decimal_digit, first_decimal, decimal_nonempty}
use Rattle.std.proofs.lemmas.List.Folds.{list_all-append}
use Rattle.text_fields.specs.Fields.{Is32}
use Rattle.text_fields.specs.Front.{Front, begins, skip, end_read, line_start}
use Rattle.text_fields.specs.LineFields.{is_digit, digits_len, is_numeral, value, numeral_read, number_read, field_read, signed_read}
use Rattle.text_fields.proofs.Digits.{with_digit}

-- a place in a line before which all is in its range
abbrev pub place : (start : ℕ) → List ℕ → Front
place start rest = record { fine = true; start = start; rest = rest }

-- ---- words that stand there

pub begins_self : (word rest : List ℕ) → begins word (word ++ rest) ≡ true
begins_self word rest =
    let long : length word ≤ length (word ++ rest) = omega (arith, length-append word rest) in
    rw (le-ltb (length (word ++ rest)) (length word) long, take-append_seam word rest) (nat_list_eq_equiv.refl word)

-- other bytes stand where the word would stand
pub begins_not : (word bytes : List ℕ) → pointwise nat_eq (take (length word) bytes) word ≡ false → begins word bytes ≡ false
begins_not word bytes other = by (nat_lt (length bytes) (length word)) where
  by : (b : Bool) → (if b then false else pointwise nat_eq (take (length word) bytes) word) ≡ false
  by true = refl
  by false = other

pub skips : (word : List ℕ) (start : ℕ) (rest : List ℕ) → skip word (place start (word ++ rest)) ≡ Ok (place start rest)
unfolding skip
skips word start rest = rw (begins_self word rest, drop-append_seam word rest) refl

-- the end of a line, and the next one
pub ends : (start : ℕ) (rest : List ℕ) → end_read (place start (codes "\n" ++ rest)) ≡ Ok (line_start rest)
unfolding end_read
ends start rest = rw (skips (codes "\n") start rest) refl

-- ---- bytes that pass a test, up to one that does not

abbrev pub Stops : (ℕ → Bool) → List ℕ → Type 0
Stops test [] = Unit {0}
Stops test (b ∷ bs) = test b ≡ false

pub prefix_is : (test : ℕ → Bool) (front rest : List ℕ) → list_all test front ≡ true → Stops test rest → prefix_len test (front ++ rest) ≡ length front
prefix_is test [] [] all stops = refl
prefix_is test [] (b ∷ bs) all stops = rw stops refl
prefix_is test (b ∷ bs) rest all stops =
    let h = and_parts (test b) (list_all test bs) all in
    rw (h.0, prefix_is test bs rest h.1 stops) (omega arith)

-- ---- numerals

pub record IsNumeral (n : ℕ) (digits : List ℕ) : Type 0 where
  pub are_digits : list_all is_digit digits ≡ true
  pub is : value digits ≡ n

value_on : (n : ℕ) (ds es : List ℕ) → fold with_digit n (ds ++ es) ≡ fold with_digit (fold with_digit n ds) es
value_on n [] es = refl
value_on n (d ∷ ds) es = value_on (with_digit n d) ds es

one_digit : (n : ℕ) → n < 10 → IsNumeral n ((48 + n) ∷ [])
one_digit n below = record {
  are_digits = rw (le-leb 48 (48 + n) (omega arith), le-leb (48 + n) 57 (omega arith)) refl;
  is = omega arith;
}

one_more : (n : ℕ) (ds : List ℕ) → 10 ≤ n → IsNumeral (n / 10) ds → IsNumeral n (ds ++ ((48 + n % 10) ∷ []))
one_more n ds above h =
    let last = one_digit (n % 10) (omega arith) in
    let before : fold with_digit 0 ds ≡ n / 10 = h.is in
    record {
      are_digits = list_all-append is_digit ds ((48 + n % 10) ∷ []) ∙ and_from (list_all is_digit ds) (list_all is_digit ((48 + n % 10) ∷ [])) h.are_digits last.are_digits;
      is = value_on 0 ds ((48 + n % 10) ∷ []) ∙ ap (λ k. with_digit k (48 + n % 10)) before ∙ (let e : 10 * (n / 10) + (48 + n % 10 - 48) ≡ n = omega arith in e);
    }

pub numeral : (n : ℕ) → n < 2 ^ 64 → IsNumeral n (decimal n)
numeral = decimal_by_steps (λ n digits. IsNumeral n digits) one_digit one_more

-- no 0 stands before other digits
leads : (digits : List ℕ) → 0 < length digits → 48 < get_or digits 0 0 → is_numeral digits ≡ true
leads [] some above = absurd (omega (arith, some))
leads (d ∷ []) some above = refl
leads (d ∷ e ∷ ds) some above = rw (ne_eqb d 48 (λ (same : d ≡ 48). omega (arith, above, same))) refl

pub is_spelled : (n : ℕ) → n < 2 ^ 64 → is_numeral (decimal n) ≡ true
is_spelled zero low = ap is_numeral (decimal_digit 0 (omega arith))
is_spelled (suc n) low = leads (decimal (suc n)) (decimal_nonempty (suc n) low) (first_decimal (suc n) (omega arith) low)

-- where a number stands, no word stands that begins with no digit
pub digit_first : (k other : ℕ) (more digits rest : List ℕ) → is_digit other ≡ false → 0 < length digits → list_all is_digit digits ≡ true → pointwise nat_eq (take (suc k) (digits ++ rest)) (other ∷ more) ≡ false
digit_first k other more [] rest is some all = absurd (omega (arith, some))
digit_first k other more (d ∷ ds) rest is some all =
    let digit = and_parts (is_digit d) (list_all is_digit ds) all in
    rw (ne_eqb d other (λ (same : d ≡ other). false≢true (sym is ∙ sym (ap is_digit same) ∙ digit.0))) refl

-- ---- numbers

pub numeral_reads : (n start : ℕ) (rest : List ℕ) → n < 2 ^ 32 → Stops is_digit rest → numeral_read (place start (decimal n ++ rest)) ≡ Ok (Some n, place start rest)
unfolding numeral_read
numeral_reads n start rest low stops =
    let wide : n < 2 ^ 64 = omega arith in
    let is = numeral n wide in
    let len : digits_len (decimal n ++ rest) ≡ length (decimal n) = prefix_is is_digit (decimal n) rest is.are_digits stops in
    rw (len, take-append_seam (decimal n) rest, drop-append_seam (decimal n) rest, is_spelled n wide, is.is, lt-ltb n (2 ^ 32) low) refl

pub field_reads : (label : List ℕ) (low high n start : ℕ) (rest : List ℕ) → low ≤ n → n ≤ high → high < 2 ^ 32 → Stops is_digit rest → field_read label low high (place start (label ++ (decimal n ++ rest))) ≡ Ok (n, place start rest)
unfolding field_read number_read
field_reads label low high n start rest above below room stops =
    rw (skips label start (decimal n ++ rest), numeral_reads n start rest (omega arith) stops, le-leb low n above, le-leb n high below) refl

-- ---- numbers with a sign

no_minus : (n : ℕ) (rest : List ℕ) → n < 2 ^ 64 → begins (codes "-") (decimal n ++ rest) ≡ false
no_minus n rest low = begins_not (codes "-") (decimal n ++ rest) (digit_first 0 45 [] (decimal n) rest refl (decimal_nonempty n low) (numeral n low).are_digits)

pub signed_reads : (z : ℤ) (start : ℕ) (rest : List ℕ) → Is32 z → Stops is_digit rest → signed_read (place start (signed_decimal z ++ rest)) ≡ Ok (z, place start rest)
unfolding signed_read
signed_reads (pos n) start rest low stops = rw (no_minus n rest (omega arith), numeral_reads n start rest (omega arith) stops, lt-ltb n (2 ^ 31) low) refl
signed_reads (negsuc n) start rest low stops =
    rw (begins_self (codes "-") (decimal (suc n) ++ rest), skips (codes "-") start (decimal (suc n) ++ rest), numeral_reads (suc n) start rest (omega arith) stops, lt-ltb n (2 ^ 31) low) refl
