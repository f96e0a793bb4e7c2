-- Lists of names no two of which are the same.
use Rattle.std.proofs.Common.{◌≡◌, ◌<◌, ℕ, zero, suc, inl, inr, List, [], ◌∷◌, length, map, arith, refl, ap, sym}
use Rattle.std.specs.Prelude.{option_map, slice_get, unwrap_or}
use Rattle.syntax_tree.specs.Plain.{Name}
use Rattle.wellformed_law.proofs.Members.{In}

-- each is another than those behind it
abbrev pub Differing : List Name → Type 0
Differing [] = Unit {0}
Differing (x ∷ xs) = ((y : Name) → In xs y → x ≡ y → ⊥) × Differing xs

-- the name at a place; none beyond the end
abbrev pub name_at : List Name → ℕ → Name
name_at xs k = unwrap_or (slice_get xs k) []

name_in : (xs : List Name) (k : ℕ) → k < length xs → In xs (name_at xs k)
name_in [] k low = absurd (omega arith)
name_in (x ∷ xs) zero low = inl refl
name_in (x ∷ xs) (suc k) low = inr (name_in xs k (omega arith))

pub one_place : (xs : List Name) → Differing xs → (i j : ℕ) → i < length xs → j < length xs → name_at xs i ≡ name_at xs j → i ≡ j
one_place [] differ i j low below e = absurd (omega arith)
one_place (x ∷ xs) differ zero zero low below e = refl
one_place (x ∷ xs) differ zero (suc j) low below e = absurd (differ.0 (name_at xs j) (name_in xs j (omega arith)) e)
one_place (x ∷ xs) differ (suc i) zero low below e = absurd (differ.0 (name_at xs i) (name_in xs i (omega arith)) (sym e))
one_place (x ∷ xs) differ (suc i) (suc j) low below e = ap (λ n. suc n) (one_place xs differ.1 i j (omega arith) (omega arith) e)

-- the name of what stands at a place is that which stands there among the names
pub mapped_at : {X : Type 0} (f : X → Name) (xs : List X) (k : ℕ) → unwrap_or (option_map f (slice_get xs k)) [] ≡ name_at (map f xs) k
mapped_at f [] k = refl
mapped_at f (x ∷ xs) zero = refl
mapped_at f (x ∷ xs) (suc k) = mapped_at f xs k
