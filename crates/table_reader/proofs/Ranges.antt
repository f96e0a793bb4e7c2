-- Numbers in a range, as words that are numerals spell them.
use Rattle.std.proofs.Common.{◌≡◌, ◌≢◌, ◌<◌, ◌≤◌, ◌+◌, ◌-◌, ◌*◌, ◌^◌, ◌==◌, not, ℕ, zero, suc, true, List, [], ◌∷◌, length, fold, get_or, decimal, refl, ap, sym, ◌∙◌, arith, rules}
use Rattle.std.specs.Prelude.{IsTrue, nat_le}
use Rattle.std.specs.Int.{IsInRange}
use Rattle.std.specs.List.{list_all}
use Rattle.std.proofs.lemmas.Bool.{and_parts, leb-true, eq-eqb, false≢true}
use Rattle.std.proofs.lemmas.Str.Parse.{IsNumeralModel, numerals_by_fold, tells_by_index}
use Rattle.std.proofs.lemmas.Fmt.{digits_value-decimal}
use Rattle.syntax.specs.Spellings.{is_digit, is_number}
use Rattle.text_fields.specs.LineFields.{value, is_numeral as has_no_leading_zero}
use Rattle.text_fields.proofs.Numerals.{AreDigits, read_on, numeral_is}
use Rattle.table_format.specs.Spelling.{Word}
use Rattle.table_format.specs.Faults.{is_numeral}
use Rattle.table_reader.specs.Judging.{IsNumber}

own : IsNumeralModel AreDigits (read_on 0)
own = numerals_by_fold AreDigits tells_by_index read_on (search rules)

value_is : (n : ℕ) (digits : List ℕ) → read_on n digits ≡ fold (λ m d. 10 * m + (d - 48)) n digits
value_is n [] = refl
value_is n (d ∷ ds) = value_is (10 * n + (d - 48)) ds

one_digit : (d : ℕ) → is_digit d ≡ true → IsInRange 48 57 d
one_digit d is = let p = and_parts (nat_le 48 d) (nat_le d 57) is in (leb-true 48 d p.0, leb-true d 57 p.1)

are_digits : (w : Word) → list_all is_digit w ≡ true → AreDigits w
are_digits [] all i below = absurd (omega (arith, below))
are_digits (d ∷ ds) all zero below = one_digit d (and_parts (is_digit d) (list_all is_digit ds) all).0
are_digits (d ∷ ds) all (suc i) below = are_digits ds (and_parts (is_digit d) (list_all is_digit ds) all).1 i (omega (arith, below))

lone_zero : (w : Word) → has_no_leading_zero w ≡ true → get_or w 0 0 ≡ 48 → length w ≡ 1
lone_zero [] h first = absurd (false≢true h)
lone_zero (d ∷ []) h first = refl
lone_zero (d ∷ e ∷ ds) h first = absurd (let t : (d == 48) ≡ true = eq-eqb d 48 first in let f : not true ≡ true = ap not (sym t) ∙ h in cc)

-- a numeral is the decimal text of its value
pub numeral_text : (w : Word) → IsTrue (is_numeral w) → value w < 2 ^ 64 → w ≡ decimal (value w)
numeral_text [] is small = absurd (false≢true (and_parts (is_number []) (has_no_leading_zero []) is).0)
numeral_text (b ∷ bs) is small =
    let p = and_parts (is_number (b ∷ bs)) (has_no_leading_zero (b ∷ bs)) is in
    numeral_is (b ∷ bs) (value (b ∷ bs)) (are_digits (b ∷ bs) p.0) (value_is 0 (b ∷ bs)) (omega arith) (lone_zero (b ∷ bs) p.1) small

pub value_decimal : (n : ℕ) → n < 2 ^ 64 → value (decimal n) ≡ n
value_decimal n small = sym (value_is 0 (decimal n)) ∙ digits_value-decimal own n small

-- ---- what is read

pub is_number_read : (low high : ℕ) (w : Word) (n : ℕ) → high < 2 ^ 32 → low ≤ n → n ≤ high → w ≡ decimal n → IsNumber low high w n
is_number_read low high w n small from to is = record {
  is = sym (ap value is ∙ value_decimal n (omega (arith, small, to)));
  spelled = sym is;
  within = (from, to);
}

pub none_read : (low high : ℕ) (w : Word) → high < 2 ^ 32 → IsTrue (is_numeral w) → ((n : ℕ) → n ≤ high → w ≢ decimal n) → ¬ IsInRange low high (value w)
none_read low high w small is none within =
    let to = within.1 in
    none (value w) to (numeral_text w is (omega (arith, small, to)))

pub low_read : (low high : ℕ) (w : Word) (n : ℕ) → high < 2 ^ 32 → n ≤ high → n < low → w ≡ decimal n → ¬ IsInRange low high (value w)
low_read low high w n small to below is within =
    let from = within.0 in
    let same = ap value is ∙ value_decimal n (omega (arith, small, to)) in
    omega (arith, from, same, below)
