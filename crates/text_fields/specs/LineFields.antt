-- Numbers in a line.
use Rattle.std.specs.Prelude.{◌&&◌, ◌==◌, ◌+◌, ◌-◌, ◌*◌, ◌^◌, not, ℕ, zero, suc, ℤ, pos, negsuc, Bool, true, false, List, [], ◌∷◌, take, drop, fold, Ok, Err, Option, Some, None, codes, nat_lt, nat_le, if◌then◌else◌}
use Rattle.std.specs.List.{prefix_len}
use Rattle.text_fields.specs.Front.{Front, Read, ◌>>=◌, no_form, moved, noted, begins, skip}

abbrev pub is_digit : ℕ → Bool
is_digit b = nat_le 48 b && nat_le b 57

-- the digits at the front
abbrev pub digits_len : List ℕ → ℕ
digits_len bytes = prefix_len is_digit bytes

-- digits spell a number where there is one, and the first of more is no 0
abbrev pub is_numeral : List ℕ → Bool
is_numeral [] = false
is_numeral (d ∷ []) = true
is_numeral (d ∷ e ∷ ds) = not (d == 48)

abbrev pub value : List ℕ → ℕ
value digits = fold (λ n d. 10 * n + (d - 48)) 0 digits

-- a number below 2 ^ 32; no field has room for others
abbrev pub small : ℕ → Option ℕ
small n = if nat_lt n (2 ^ 32) then Some n else None

-- a number of any size
unfoldable pub numeral_read : Front → Read (Option ℕ)
numeral_read s =
    if is_numeral (take (digits_len s.rest) s.rest) then Ok (small (value (take (digits_len s.rest) s.rest)), moved s (drop (digits_len s.rest) s.rest))
    else Err (no_form s)

-- out of range it is noted, and 0 stands in its place
abbrev pub ranged : (low high : ℕ) → Option ℕ → Front → ℕ × Front
ranged low high None s = (0, noted s false)
ranged low high (Some n) s = if nat_le low n && nat_le n high then (n, s) else (0, noted s false)

-- a number within a range
unfoldable pub number_read : (low high : ℕ) → Front → Read ℕ
number_read low high s = numeral_read s >>= λ x. Ok (ranged low high x.0 x.1)

-- a number within a range behind these bytes
unfoldable pub field_read : (label : List ℕ) → (low high : ℕ) → Front → Read ℕ
field_read label low high s = skip label s >>= number_read low high

-- ---- numbers with a sign

-- a number below zero, whose digits are read; 0 has no sign
abbrev pub negative : Option ℕ → Front → Read ℤ
negative None s = Ok (pos 0, noted s false)
negative (Some zero) s = Err (no_form s)
negative (Some (suc n)) s = if nat_lt n (2 ^ 31) then Ok (negsuc n, s) else Ok (pos 0, noted s false)

abbrev pub positive : Option ℕ → Front → ℤ × Front
positive None s = (pos 0, noted s false)
positive (Some n) s = if nat_lt n (2 ^ 31) then (pos n, s) else (pos 0, noted s false)

-- a number of 32 bits with its sign
unfoldable pub signed_read : Front → Read ℤ
signed_read s =
    if begins (codes "-") s.rest then (skip (codes "-") s >>= numeral_read >>= λ x. negative x.0 x.1)
    else (numeral_read s >>= λ x. Ok (positive x.0 x.1))
