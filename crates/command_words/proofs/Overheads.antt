-- The number whose decimal text a word is, if it is small.
use Rattle.std.proofs.Common.{◌≡◌, ◌≢◌, ℕ, zero, suc, ◌+◌, ◌^◌, ◌<◌, ◌≤◌, List, Option, Some, None, bytes_eq, decimal, find, refl, arith}
use Rattle.std.specs.List.{range_with_len}
use Rattle.std.proofs.lemmas.Slice.Eq.{bytes_eq-Decides}
use Rattle.std.proofs.lemmas.Fmt.{decimal_injective}
use Rattle.command_words.specs.Words.{number_up_to}

-- the one of these numbers whose text the word is
abbrev among : List ℕ → ℕ → ℕ → Option ℕ
among word first len = find (λ number. bytes_eq word (decimal number)) (range_with_len first len)

-- what is found is one of them, and the word is its text
found : (word : List ℕ) (first len number : ℕ) → among word first len ≡ Some number → (number < first + len) × (word ≡ decimal number)
found word first zero number e = cc
found word first (suc len) number e = grind (arith, found word (first + 1) len number, bytes_eq-Decides word (decimal first))

-- each of them whose text the word is, is found
finds : (word : List ℕ) (first len number : ℕ) → first ≤ number → number < first + len → first + len < 2 ^ 64 → word ≡ decimal number → among word first len ≡ Some number
finds word first zero number from below small e = absurd (omega arith)
finds word first (suc len) number from below small e =
    grind (arith, finds word (first + 1) len number, bytes_eq-Decides word (decimal first), decimal_injective first number)

pub number_is : (most : ℕ) (word : List ℕ) (number : ℕ) → number_up_to most word ≡ Some number → (number ≤ most) × (word ≡ decimal number)
unfolding number_up_to
number_is most word number e = let r = found word 0 (most + 1) number e in (omega (arith, r.0), r.1)

pub is_number : (most : ℕ) (word : List ℕ) (number : ℕ) → most < 2 ^ 32 → number ≤ most → word ≡ decimal number → number_up_to most word ≡ Some number
unfolding number_up_to
is_number most word number small within e = finds word 0 (most + 1) number (omega arith) (omega arith) (omega arith) e

none_is : (most : ℕ) (word : List ℕ) (answer : Option ℕ) → number_up_to most word ≡ answer → ((number : ℕ) → number ≤ most → word ≢ decimal number) → number_up_to most word ≡ None
none_is most word None e none = e
none_is most word (Some number) e none = let is = number_is most word number e in absurd (none number is.0 is.1)

pub no_number : (most : ℕ) (word : List ℕ) → ((number : ℕ) → number ≤ most → word ≢ decimal number) → number_up_to most word ≡ None
no_number most word none = none_is most word (number_up_to most word) refl none
