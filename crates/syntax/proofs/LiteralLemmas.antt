-- The value of digits, one after another.
use Rattle.std.proofs.Common.{◌≡◌, ℕ, suc, ◌+◌, ◌-◌, ◌*◌, ◌<◌, ◌≤◌, List, [], ◌∷◌, length, drop, fold, slice_index_or, ap, ◌∙◌, arith}
use Rattle.std.proofs.Math.Seq.{drop-cons}
use Rattle.std.proofs.lemmas.Bool.{and_parts}

-- a number with one more digit behind it
abbrev pub with_digit : ℕ → ℕ → ℕ
with_digit n digit = 10 * n + (digit - 48)

pub more_digits : (n : ℕ) (digits : List ℕ) → n ≤ fold with_digit n digits
more_digits n [] = omega arith
more_digits n (d ∷ ds) = let more = more_digits (with_digit n d) ds in omega (arith, more)

pub next_digit : (n : ℕ) (digits : List ℕ) (i : ℕ) → i < length digits
    → fold with_digit n (drop i digits) ≡ fold with_digit (with_digit n (slice_index_or digits i 0)) (drop (i + 1) digits)
next_digit n digits i below =
    let s : suc i ≡ i + 1 = omega arith in
    ap (fold with_digit n) (drop-cons digits i 0 below ∙ ap (λ k. slice_index_or digits i 0 ∷ drop k digits) s)
