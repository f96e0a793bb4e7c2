-- The first place at which a test passes, among things that are seen in another way.
use Rattle.std.specs.Prelude.{◌≡◌, ◌<◌, ◌+◌, ℕ, Bool, true, false, cond, not, List, [], ◌∷◌, Some, None, map, length, position, nat_lt}
use Rattle.std.specs.List.{position_or_len, prefix_len}
use Rattle.std.proofs.Common.{refl, sym, ◌∙◌, ap, arith}
use Rattle.std.proofs.lemmas.Bool.Decides.{nat_tests}
use Rattle.std.proofs.lemmas.List.{length-map}

prefix_mapped : {A B : Type 0} (f : A → B) (p : B → Bool) (xs : List A) → prefix_len p (map f xs) ≡ prefix_len (λ x. p (f x)) xs
prefix_mapped f p [] = refl
prefix_mapped f p (x ∷ xs) = ap (λ n. cond (p (f x)) (1 + n) 0) (prefix_mapped f p xs)

pub position_mapped : {A B : Type 0} (f : A → B) (p : B → Bool) (xs : List A) → position p (map f xs) ≡ position (λ x. p (f x)) xs
position_mapped f p xs =
    ap (λ n. cond (nat_lt n (length (map f xs))) (Some n) None) (prefix_mapped f (λ x. not (p x)) xs)
    ∙ ap (λ n. cond (nat_lt (position_or_len (λ x. p (f x)) xs) n) (Some (position_or_len (λ x. p (f x)) xs)) None) (length-map xs f)

pub position_within : {A : Type 0} (p : A → Bool) (xs : List A) (m : ℕ) → position p xs ≡ Some m → m < length xs
position_within p xs m e = by_case (nat_lt (position_or_len p xs) (length xs)) refl
  where
    by_case : (b : Bool) → nat_lt (position_or_len p xs) (length xs) ≡ b → m < length xs
    by_case true h =
        let is : Some m ≡ Some (position_or_len p xs) = sym e ∙ ap (λ b. cond b (Some (position_or_len p xs)) None) h in
        let same : m ≡ position_or_len p xs = cc in
        grind (arith, nat_tests)
    by_case false h = let is : Some m ≡ None = sym e ∙ ap (λ b. cond b (Some (position_or_len p xs)) None) h in absurd cc
