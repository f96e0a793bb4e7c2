-- The made names are names, with each tail that is tried.
use Rattle.std.proofs.Common.{◌≡◌, ◌≤◌, ◌<◌, ◌+◌, ◌^◌, ◌⊎◌, ℕ, zero, suc, Bool, true, false, not, ◌&&◌, ◌||◌, nat_eq, List, [], ◌∷◌, ◌++◌, codes, decimal, length, length-append, refl, ap, ◌∙◌, arith}
use Rattle.std.specs.List.{list_all}
use Rattle.std.specs.Prelude.{Contains}
use Rattle.std.proofs.lemmas.Fmt.{length-decimal-le}
use Rattle.std.proofs.lemmas.Bool.{and_parts}
use Rattle.syntax_tree.specs.Plain.{Name}
use Rattle.syntax.specs.Spellings.{keywords, is_letter, is_digit, is_word, is_number}
use Rattle.syntax.proofs.SpellLemmas.{listed}
use Rattle.syntax.proofs.KindLemmas.{not_there}
use Rattle.syntax.specs.Words.{named}
use Rattle.syntax_printer.proofs.Spelled.{IsSpelled, decimal_reads}
use Rattle.table_format.specs.Spending.{of_x}
use Rattle.table_format.specs.Program.{stay_name, tail_of}
use Rattle.table_law.proofs.Spelled.{MadeSpelled}
use Rattle.table_law.proofs.Short.{MadeShort}

-- ---- digits and tails are bytes of names

digit_word : (d : ℕ) → is_digit d ≡ true → is_word d ≡ true
digit_word d is = by (is_letter d) is
  where
    by : (letter : Bool) → is_digit d ≡ true → ((letter || is_digit d) || nat_eq d 95) ≡ true
    by true is = refl
    by false is = ap (λ b. b || nat_eq d 95) is

digits_words : (ds : List ℕ) → list_all is_digit ds ≡ true → list_all is_word ds ≡ true
digits_words [] are = refl
digits_words (d ∷ ds) are =
    let parts = and_parts (is_digit d) (list_all is_digit ds) are in
    ap (λ b. b && list_all is_word ds) (digit_word d parts.0) ∙ digits_words ds parts.1

number_words : (ds : List ℕ) → is_number ds ≡ true → list_all is_word ds ≡ true
number_words [] are = cc
number_words (d ∷ ds) are = digits_words (d ∷ ds) are

words_words : (xs ys : List ℕ) → list_all is_word xs ≡ true → list_all is_word ys ≡ true → list_all is_word (xs ++ ys) ≡ true
words_words [] ys one other = other
words_words (x ∷ xs) ys one other =
    let parts = and_parts (is_word x) (list_all is_word xs) one in
    ap (λ b. b && list_all is_word (xs ++ ys)) parts.0 ∙ words_words xs ys parts.1 other

-- ---- no keyword is one letter, has `_` behind its first letter, or has a digit as its fifth byte

fifth_is_digit : List ℕ → Bool
fifth_is_digit (c ∷ d ∷ e ∷ more) = is_digit e
fifth_is_digit _ = false

is_no_keyword : List ℕ → Bool
is_no_keyword [] = false
is_no_keyword (a ∷ []) = true
is_no_keyword (a ∷ b ∷ more) = nat_eq b 95 || fifth_is_digit more

no_keyword : (name : Name) → is_no_keyword name ≡ true → ¬ Contains keywords name
unfolding is_no_keyword fifth_is_digit
no_keyword name is has = not_there (is_no_keyword name) (listed (λ k. not (is_no_keyword k)) keywords name refl has) is

-- ---- a letter, and a tail

letter_fits : (letter number : ℕ) → is_letter letter ≡ true → number < 1000 → IsSpelled (named (letter ∷ tail_of number))
unfolding is_no_keyword
letter_fits letter zero is few = (ap (λ b. b && true) is, no_keyword (letter ∷ []) refl, omega arith)
letter_fits letter (suc number) is few =
    let it = decimal_reads (suc number) (omega (arith, few)) in
    let short = length-decimal-le 3 (suc number) (omega arith) (omega (arith, few)) (omega (arith, few)) in (
      ap (λ b. b && list_all is_word (decimal (suc number))) is ∙ number_words (decimal (suc number)) it.are,
      no_keyword (letter ∷ 95 ∷ decimal (suc number)) refl,
      omega (arith, short),
    )

-- ---- `stay`, a number, and a tail

tail_words : (number : ℕ) → number < 1000 → list_all is_word (tail_of number) ≡ true
tail_words zero few = refl
tail_words (suc number) few = let it = decimal_reads (suc number) (omega (arith, few)) in number_words (decimal (suc number)) it.are

tail_short : (number : ℕ) → number < 1000 → length (tail_of number) ≤ 4
tail_short zero few = omega arith
tail_short (suc number) few = let short = length-decimal-le 3 (suc number) (omega arith) (omega (arith, few)) (omega (arith, few)) in omega (arith, short)

digits_fit : (ds tail : List ℕ) → is_number ds ≡ true → is_no_keyword (codes "stay" ++ (ds ++ tail)) ≡ true
unfolding is_no_keyword fifth_is_digit
digits_fit [] tail are = cc
digits_fit (d ∷ ds) tail are = (and_parts (is_digit d) (list_all is_digit ds) are).0

stay_fits : (ticks number : ℕ) → ticks ≤ 1000000000 → number < 1000 → IsSpelled (named (stay_name ticks ++ tail_of number))
stay_fits ticks number few low =
    let it = decimal_reads ticks (omega (arith, few)) in
    let short = length-decimal-le 10 ticks (omega arith) (omega (arith, few)) (omega (arith, few)) in
    let tail = tail_short number low in (
      words_words (decimal ticks) (tail_of number) (number_words (decimal ticks) it.are) (tail_words number low),
      no_keyword (codes "stay" ++ (decimal ticks ++ tail_of number)) (digits_fit (decimal ticks) (tail_of number) it.are),
      omega (arith, short, tail, length-append (decimal ticks) (tail_of number)),
    )

pub made_spelled : (number : ℕ) → number < 1000 → MadeSpelled (tail_of number)
made_spelled number few = record {
  x = letter_fits 120 number refl few;
  i = letter_fits 105 number refl few;
  j = letter_fits 106 number refl few;
  stay = λ ticks low. stay_fits ticks number low few;
}

pub made_short : (number : ℕ) → number < 1000 → MadeShort (tail_of number)
made_short number few =
    let tail = tail_short number few in
    record {
      x = omega (arith, tail);
      i = omega (arith, tail);
      j = omega (arith, tail);
      stay = λ ticks low. (
          let short = length-decimal-le 10 ticks (omega arith) (omega (arith, low)) (omega (arith, low)) in
          omega (arith, short, tail, length-append (decimal ticks) (tail_of number)));
    }
