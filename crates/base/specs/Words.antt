-- Words, signed numbers of 32 bits, and what an operation makes of them: a word, or the number of
-- the exception that it raises.
use Rattle.std.specs.Prelude.{◌^◌, ◌&&◌, ℕ, zero, suc, Bool, true, false, not, ℤ, pos, negsuc, ◌+ℤ◌, ◌-ℤ◌, ◌*ℤ◌, neg_ℤ, nat_lt, nat_eq, int_le, int_div, int_rem, if◌then◌else◌, ◌≡◌, Result, Ok, Err}

pub data Answer : Type 0 where
  word : ℤ → Answer
  raised : ℕ → Answer

-- the value goes on into what follows; an exception does not
abbrev pub with_word : Answer → (ℤ → Answer) → Answer
with_word (word v) next = next v
with_word (raised n) next = raised n

-- a word is -2147483648 .. 2147483647
abbrev pub is_word : ℤ → Bool
is_word (pos n) = nat_lt n (2 ^ 31)
is_word (negsuc n) = nat_lt n (2 ^ 31)

-- the exact number where it is a word, else overflow, which is exception 1
abbrev pub in_word : ℤ → Answer
in_word z = if is_word z then word z else raised 1

abbrev pub is_zero : ℤ → Bool
is_zero (pos zero) = true
is_zero (pos (suc n)) = false
is_zero (negsuc n) = false

-- a word as a truth: 0 is false, any other is true
abbrev pub is_true : ℤ → Bool
is_true z = not (is_zero z)

abbrev pub of_bool : Bool → ℤ
of_bool true = pos 1
of_bool false = pos 0

abbrev pub same : ℤ → ℤ → Bool
same (pos a) (pos b) = nat_eq a b
same (negsuc a) (negsuc b) = nat_eq a b
same (pos a) (negsuc b) = false
same (negsuc a) (pos b) = false

-- x is one of low .. high
abbrev pub within : ℤ → ℤ → ℤ → Bool
within low high x = int_le low x && int_le x high

abbrev pub sum : ℤ → ℤ → Answer
sum a b = in_word (a +ℤ b)

abbrev pub difference : ℤ → ℤ → Answer
difference a b = in_word (a -ℤ b)

abbrev pub product : ℤ → ℤ → Answer
product a b = in_word (a *ℤ b)

abbrev pub negated : ℤ → Answer
negated a = in_word (neg_ℤ a)

-- truncated toward zero; by 0 it is exception 2
abbrev pub quotient : ℤ → ℤ → Answer
quotient a b = if is_zero b then raised 2 else in_word (int_div a b)

-- with the sign of the left operand; by 0 it is exception 2
abbrev pub remainder : ℤ → ℤ → Answer
remainder a b = if is_zero b then raised 2 else word (int_rem a b)

-- a call's result is this answer: Ok is the word, Err is the exception
abbrev pub IsAnswer : Answer → Result ℤ ℕ → Type 0
IsAnswer answer (Ok v) = answer ≡ word v
IsAnswer answer (Err n) = answer ≡ raised n
