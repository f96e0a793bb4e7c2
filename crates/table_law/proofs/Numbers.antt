-- Numbers in decimal, and names, as words.
use Rattle.std.proofs.Common.{◌≡◌, ◌≤◌, ◌<◌, ◌+◌, ◌-◌, ◌*◌, ◌^◌, ◌%◌, ◌/◌, ◌++◌, ◌&&◌, ℕ, zero, suc, Bool, true, false, List, [], ◌∷◌, length, fold, get_or, decimal, refl, sym, ap, ◌∙◌, arith}
use Rattle.std.specs.List.{list_all}
use Rattle.std.proofs.lemmas.Bool.{and_parts, and_from, false≢true, le-leb, ne_eqb}
use Rattle.std.proofs.lemmas.Fmt.{decimal_by_steps, decimal_digit, first_decimal, decimal_nonempty}
use Rattle.std.proofs.lemmas.List.Folds.{list_all-append}
use Rattle.syntax.specs.Spellings.{is_digit, is_word, is_number}
use Rattle.text_fields.specs.Fields.{Lacks, IsWord}
use Rattle.text_fields.specs.LineFields.{value, is_numeral as has_no_leading_zero}
use Rattle.text_fields.proofs.Digits.{with_digit}
use Rattle.table_format.specs.Spelling.{Word}
use Rattle.table_format.specs.Rules.{IsName}
use Rattle.table_format.specs.Faults.{is_numeral, IsTableWord}

-- ---- bytes that pass a test

pub test_lacks : (test : ℕ → Bool) (stop : ℕ) → test stop ≡ false → (bs : List ℕ) → list_all test bs ≡ true → Lacks stop bs
test_lacks test stop other [] all = tt
test_lacks test stop other (b ∷ bs) all =
    let h = and_parts (test b) (list_all test bs) all in
    ((λ e. false≢true (sym other ∙ (sym (ap test e) ∙ h.0))), test_lacks test stop other bs h.1)

word_of : (test : ℕ → Bool) → test 32 ≡ false → test 10 ≡ false → (b : ℕ) (bs : List ℕ) → list_all test (b ∷ bs) ≡ true → IsWord (b ∷ bs)
word_of test space feed b bs all = record { some = omega arith; no_space = test_lacks test 32 space (b ∷ bs) all; no_line_feed = test_lacks test 10 feed (b ∷ bs) all }

-- letters alone are a word
pub letters_word : (w : Word) → 0 < length w → list_all is_word w ≡ true → IsWord w
letters_word [] some all = absurd (omega (arith, some))
letters_word (b ∷ bs) some all = word_of is_word refl refl b bs all

-- ---- numerals

pub number_word : (w : Word) → is_numeral w ≡ true → IsWord w
number_word [] is = absurd (false≢true (and_parts (is_number []) (has_no_leading_zero []) is).0)
number_word (b ∷ bs) is = word_of is_digit refl refl b bs (and_parts (is_number (b ∷ bs)) (has_no_leading_zero (b ∷ bs)) is).0

pub record IsNumeral (n : ℕ) (digits : List ℕ) : Type 0 where
  pub are_digits : list_all is_digit digits ≡ true
  pub is : value digits ≡ n

value_on : (n : ℕ) (ds es : List ℕ) → fold with_digit n (ds ++ es) ≡ fold with_digit (fold with_digit n ds) es
value_on n [] es = refl
value_on n (d ∷ ds) es = value_on (with_digit n d) ds es

one_digit : (n : ℕ) → n < 10 → IsNumeral n ((48 + n) ∷ [])
one_digit n below = record {
  are_digits = rw (le-leb 48 (48 + n) (omega arith), le-leb (48 + n) 57 (omega arith)) refl;
  is = omega arith;
}

one_more : (n : ℕ) (ds : List ℕ) → 10 ≤ n → IsNumeral (n / 10) ds → IsNumeral n (ds ++ ((48 + n % 10) ∷ []))
one_more n ds above h =
    let last = one_digit (n % 10) (omega arith) in
    let before : fold with_digit 0 ds ≡ n / 10 = h.is in
    record {
      are_digits = list_all-append is_digit ds ((48 + n % 10) ∷ []) ∙ and_from (list_all is_digit ds) (list_all is_digit ((48 + n % 10) ∷ [])) h.are_digits last.are_digits;
      is = value_on 0 ds ((48 + n % 10) ∷ []) ∙ ap (λ k. with_digit k (48 + n % 10)) before ∙ (let e : 10 * (n / 10) + (48 + n % 10 - 48) ≡ n = omega arith in e);
    }

pub numeral : (n : ℕ) → n < 2 ^ 64 → IsNumeral n (decimal n)
numeral = decimal_by_steps (λ n digits. IsNumeral n digits) one_digit one_more

leads : (digits : List ℕ) → 0 < length digits → 48 < get_or digits 0 0 → has_no_leading_zero digits ≡ true
leads [] some above = absurd (omega (arith, some))
leads (d ∷ []) some above = refl
leads (d ∷ e ∷ ds) some above = rw (ne_eqb d 48 (λ (same : d ≡ 48). omega (arith, above, same))) refl

no_zero : (n : ℕ) → n < 2 ^ 64 → has_no_leading_zero (decimal n) ≡ true
no_zero zero low = ap has_no_leading_zero (decimal_digit 0 (omega arith))
no_zero (suc n) low = leads (decimal (suc n)) (decimal_nonempty (suc n) low) (first_decimal (suc n) (omega arith) low)

some_digits : (w : Word) → 0 < length w → list_all is_digit w ≡ true → is_number w ≡ true
some_digits [] some all = absurd (omega (arith, some))
some_digits (b ∷ bs) some all = all

pub decimal_numeral : (n : ℕ) → n < 2 ^ 64 → is_numeral (decimal n) ≡ true
decimal_numeral n low = and_from (is_number (decimal n)) (has_no_leading_zero (decimal n)) (some_digits (decimal n) (decimal_nonempty n low) (numeral n low).are_digits) (no_zero n low)

pub value_decimal : (n : ℕ) → n < 2 ^ 64 → value (decimal n) ≡ n
value_decimal n low = (numeral n low).is

-- ---- names

letter_word : (b : ℕ) (bs : List ℕ) → IsName (b ∷ bs) → list_all is_word (b ∷ bs) ≡ true
letter_word b bs is =
    let h = and_parts _ (list_all is_word bs) is.0 in
    and_from (is_word b) (list_all is_word bs) (rw h.0 refl) h.1

pub name_word : (w : Word) → IsName w → IsTableWord w
name_word [] is = absurd (false≢true is.0)
name_word (b ∷ bs) is =
    let all = letter_word b bs is in
    record { is_word = word_of is_word refl refl b bs all; no_return = test_lacks is_word 13 refl (b ∷ bs) all }
