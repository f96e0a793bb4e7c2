-- Numbers, and names with a number, as words.
use Rattle.std.proofs.Common.{◌≡◌, ℕ, ◌≤◌, Bool, true, false, not, ◌&&◌, ◌||◌, nat_eq, List, [], ◌∷◌, refl, ap, ◌∙◌, arith, decimal}
use Rattle.std.specs.List.{list_all}
use Rattle.std.specs.Prelude.{Contains}
use Rattle.std.proofs.lemmas.Fmt.{length-decimal-le}
use Rattle.std.proofs.lemmas.Bool.{and_parts}
use Rattle.syntax.specs.Spellings.{keywords, is_letter, is_digit, is_word, is_number}
use Rattle.syntax.proofs.SpellLemmas.{listed}
use Rattle.syntax.specs.Words.{named, number}
use Rattle.syntax_printer.proofs.Spelled.{IsSpelled, decimal_reads}
use Rattle.load.specs.Program.{process_name}
use Rattle.syntax.proofs.KindLemmas.{not_there}

pub number_spelled : (n : ℕ) → n ≤ 2147483647 → IsSpelled (number n)
number_spelled n low = let it = decimal_reads n (omega arith) in (it.are, it.value, low)

-- ---- names of processes

second_is_digit : List ℕ → Bool
second_is_digit [] = false
second_is_digit (a ∷ []) = false
second_is_digit (a ∷ b ∷ bs) = is_digit b

no_keyword : (digits : List ℕ) → is_number digits ≡ true → ¬ Contains keywords (112 ∷ digits)
unfolding second_is_digit
no_keyword [] are has = cc
no_keyword (d ∷ ds) are has = not_there (is_digit d) (listed (λ k. not (second_is_digit k)) keywords (112 ∷ d ∷ ds) refl has) (and_parts (is_digit d) (list_all is_digit ds) are).0

digit_word : (d : ℕ) → is_digit d ≡ true → is_word d ≡ true
digit_word d is = by (is_letter d) is
  where
    by : (letter : Bool) → is_digit d ≡ true → ((letter || is_digit d) || nat_eq d 95) ≡ true
    by true is = refl
    by false is = ap (λ b. b || nat_eq d 95) is

digits_words : (ds : List ℕ) → list_all is_digit ds ≡ true → list_all is_word ds ≡ true
digits_words [] are = refl
digits_words (d ∷ ds) are =
    let parts = and_parts (is_digit d) (list_all is_digit ds) are in
    ap (λ b. b && list_all is_word ds) (digit_word d parts.0) ∙ digits_words ds parts.1

number_words : (ds : List ℕ) → is_number ds ≡ true → list_all is_word ds ≡ true
number_words [] are = cc
number_words (d ∷ ds) are = digits_words (d ∷ ds) are

pub name_spelled : (at : ℕ) → at ≤ 64 → IsSpelled (named (process_name at))
name_spelled at few =
    let it = decimal_reads at (omega arith) in
    let short = length-decimal-le 2 at (omega arith) (omega arith) (omega arith) in
    (number_words (decimal at) it.are, no_keyword (decimal at) it.are, omega (arith, short))
