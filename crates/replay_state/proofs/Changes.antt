-- One thing of a list is changed.
use Rattle.std.specs.Prelude.{◌≡◌, ◌≤◌, ◌+◌, ℕ, zero, suc, List, [], ◌∷◌, Some, map, slice_get, slice_set, length}
use Rattle.std.proofs.Common.{refl, sym, ◌∙◌, ap, arith}
use Rattle.source_semantics.specs.Config.{changed}

pub set_changed : {A B : Type 0} (f : A → B) (h : B → B) (k : ℕ) (xs : List A) (x y : A) → slice_get xs k ≡ Some x → f y ≡ h (f x) → map f (slice_set xs k y) ≡ changed h k (map f xs)
set_changed f h k [] x y got is = absurd cc
set_changed f h zero (z ∷ xs) x y got is = let e : z ≡ x = cc in ap (λ b. b ∷ map f xs) (is ∙ ap (λ a. h (f a)) (sym e))
set_changed f h (suc k) (z ∷ xs) x y got is = ap (λ l. f z ∷ l) (set_changed f h k xs x y got is)

pub changed_past : {A B : Type 0} (f : A → B) (h : B → B) (k : ℕ) (xs : List A) → length xs ≤ k → map f xs ≡ changed h k (map f xs)
changed_past f h k [] le = refl
changed_past f h zero (x ∷ xs) le = let none : length xs + 1 ≤ 0 = omega (arith, le) in absurd (omega (arith, none))
changed_past f h (suc k) (x ∷ xs) le = ap (λ l. f x ∷ l) (changed_past f h k xs (omega (arith, le)))
