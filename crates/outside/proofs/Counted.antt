-- The counts of names kept.
use Rattle.std.proofs.Common.{◌≡◌, ◌≢◌, ◌+◌, ℕ, List, [], ◌∷◌, ◌++◌, String, string_bytes, arith}
use Rattle.std.specs.Global.{Global}
use Rattle.std.proofs.lemmas.Grind.{common_steps}
use Rattle.std.proofs.lemmas.Slice.Eq.{bytes_eq-Decides}
use Rattle.outside.specs.Kept.{count_of}
use Rattle.outside.specs.Outside.{OneMore}

-- a name more counts for itself
pub count_of-append_same : (names : List (String Global)) (s : String Global) (name : List ℕ) → string_bytes s ≡ name → count_of (names ++ s ∷ []) name ≡ count_of names name + 1
count_of-append_same names s name same = grind (arith, common_steps, bytes_eq-Decides)

pub count_of-append_other : (names : List (String Global)) (s : String Global) (name other : List ℕ) → string_bytes s ≡ name → other ≢ name → count_of (names ++ s ∷ []) other ≡ count_of names other
count_of-append_other names s name other same differs = grind (arith, common_steps, bytes_eq-Decides)

-- a name kept is one more of itself
pub count_of-append : (names : List (String Global)) (s : String Global) (name : List ℕ) → string_bytes s ≡ name → OneMore (count_of names) (count_of (names ++ s ∷ [])) name
count_of-append names s name same = (count_of-append_same names s name same, λ other differs. count_of-append_other names s name other same differs)
