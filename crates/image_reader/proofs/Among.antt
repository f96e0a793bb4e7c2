-- Names and conditions that stand before others, as a set holds them.
use Rattle.std.proofs.Common.{◌≡◌, ◌&&◌, ◌||◌, ◌++◌, ◌∷◌, [], ℕ, Bool, true, false, List, if◌then◌else◌, map, refl, ap, ◌∙◌}
use Rattle.std.specs.Prelude.{nat_eq}
use Rattle.std.specs.Cmp.Lexicographic.{pointwise}
use Rattle.std.specs.List.{list_any}
use Rattle.std.proofs.lemmas.List.{map_push}
use Rattle.image_reader.specs.Grammar.{is_again}
use Rattle.image_reader.specs.Taken.{condition_in}

abbrev pub is_pair : ℕ × List ℕ → ℕ × List ℕ → Bool
is_pair k p = nat_eq k.0 p.0 && pointwise nat_eq k.1 p.1

-- a pair is among these where its condition is one of theirs
pub again_by_pairs : (k : ℕ × List ℕ) (pairs : List (ℕ × List ℕ)) → list_any (is_pair k) pairs ≡ is_again (map condition_in pairs) (condition_in k)
again_by_pairs k [] = refl
again_by_pairs k (p ∷ ps) = ap (λ b. is_pair k p || b) (again_by_pairs k ps)

put : {A : Type 0} (b : Bool) (xs : List A) (x : A) → b ≡ false → (if b then xs else xs ++ x ∷ []) ≡ xs ++ x ∷ []
put true xs x h = absurd cc
put false xs x h = refl

-- one that is new stands last
pub added : {A : Type 0} (eq : A → A → Bool) (xs : List A) (x : A) → list_any (eq x) xs ≡ false → (if list_any (eq x) xs then xs else xs ++ x ∷ []) ≡ xs ++ x ∷ []
added eq xs x h = put (list_any (eq x) xs) xs x h

pub noted : (pairs : List (ℕ × List ℕ)) (k : ℕ × List ℕ) → is_again (map condition_in pairs) (condition_in k) ≡ false
    → map condition_in (if list_any (is_pair k) pairs then pairs else pairs ++ k ∷ []) ≡ map condition_in pairs ++ condition_in k ∷ []
noted pairs k h = ap (λ (ps : List (ℕ × List ℕ)). map condition_in ps) (added is_pair pairs k (again_by_pairs k pairs ∙ h)) ∙ map_push condition_in pairs k
