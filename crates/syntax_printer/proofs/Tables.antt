-- A list of words read at a place.
use Rattle.std.proofs.Common.{◌≡◌, ℕ, List, [], Some, slice_get, unwrap_or, ap}

-- what stands at a place of a list
pub word_at : (words : List (List ℕ)) (at : ℕ) (word : List ℕ) → slice_get words at ≡ Some word → unwrap_or (slice_get words at) [] ≡ word
word_at words at word is = ap (λ o. unwrap_or o []) is
