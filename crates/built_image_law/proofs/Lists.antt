-- Lists, and what a function makes of them.
use Rattle.std.proofs.Common.{◌≡◌, ◌<◌, ◌+◌, ◌++◌, ℕ, zero, suc, List, [], ◌∷◌, Option, Some, None, length, map, take, get_or, arith, refl, ap, sym, subst, ◌∙◌, ◌⊎◌, inl, inr}
use Rattle.std.specs.Prelude.{slice_get, option_map}
use Rattle.std.proofs.lemmas.List.{length-map, map_push, map_more}
use Rattle.std.proofs.lemmas.Option.{slice_get-map}
use Rattle.base.proofs.Lists.{map_get}
use Rattle.built_image_law.specs.Filled.{Each}

pub as_many : {A B : Type 0} (f : A → B) (xs ys : List A) → map f xs ≡ map f ys → length xs ≡ length ys
as_many {A} {B} f xs ys same = sym (length-map xs f) ∙ (ap (λ (zs : List B). length zs) same ∙ length-map ys f)

-- a function that does not see what another leaves aside
pub through : {A B C : Type 0} (f : A → B) (h : B → C) (d : A → C) → ((x : A) → h (f x) ≡ d x) → (xs : List A) → map h (map f xs) ≡ map d xs
through f h d same [] = refl
through f h d same (x ∷ xs) = ap (λ y. y ∷ map h (map f xs)) (same x) ∙ ap (λ ys. d x ∷ ys) (through f h d same xs)

some_of : {A B : Type 0} (f : A → B) (o : Option A) (b : B) → option_map f o ≡ Some b → (x : A) × (o ≡ Some x) × (f x ≡ b)
some_of f None b is = absurd (cc)
some_of f (Some x) b is = (x, refl, cc)

-- the element that became one
pub came_from : {A B : Type 0} (f : A → B) (xs : List A) (k : ℕ) (b : B) → slice_get (map f xs) k ≡ Some b → (x : A) × (slice_get xs k ≡ Some x) × (f x ≡ b)
came_from f xs k b at = some_of f (slice_get xs k) b (sym (slice_get-map f xs k) ∙ at)

-- the element at the same place of a list that becomes the same
pub same_at : {A B : Type 0} (f : A → B) (xs ys : List A) (k : ℕ) (y : A) → map f xs ≡ map f ys → slice_get ys k ≡ Some y → (x : A) × (slice_get xs k ≡ Some x) × (f x ≡ f y)
same_at f xs ys k y same at = came_from f xs k (f y) (ap (λ zs. slice_get zs k) same ∙ map_get f ys k y at)

pub each_mapped : {A B : Type 0} (f : A → B) (P : ℕ → B → Type 0) (xs : List A) → Each (λ k x. P k (f x)) xs → Each P (map f xs)
each_mapped f P xs each k b at = let x = came_from f xs k b at in subst (P k) x.2 (each k x.0 x.1)

-- ---- a list that grows

pub same_more : {A B : Type 0} (f : A → B) (xs old new : List A) (i : ℕ) (x y : A) → i < length xs → x ≡ get_or xs i x → map f old ≡ map f (take i xs)
    → new ≡ old ++ y ∷ [] → f y ≡ f x → map f new ≡ map f (take (i + 1) xs)
same_more f xs old new i x y within at so_far grown same =
    ap (map f) grown ∙ map_push f old y ∙ ap (λ zs. zs ++ f y ∷ []) so_far
    ∙ ap (λ b. map f (take i xs) ++ b ∷ []) (same ∙ ap f at) ∙ sym (map_more f xs i x within)

at_seam : {A : Type 0} (xs : List A) (y : A) (k : ℕ) (x : A) → slice_get (xs ++ y ∷ []) k ≡ Some x → (slice_get xs k ≡ Some x) ⊎ ((k ≡ length xs) × (y ≡ x))
at_seam [] y zero x at = inr (refl, cc)
at_seam [] y (suc k) x at = absurd (cc)
at_seam (z ∷ xs) y zero x at = inl at
at_seam (z ∷ xs) y (suc k) x at = elim (at_seam xs y k x at) [ inl before ↦ inl before | inr last ↦ inr (ap (λ n. suc n) last.0, last.1) ]

pub each_more : {A : Type 0} (P : ℕ → A → Type 0) (old new : List A) (i : ℕ) (y : A) → length old ≡ i → new ≡ old ++ y ∷ [] → Each P old → P i y → Each P new
each_more P old new i y long grown each here k x at =
    elim (at_seam old y k x (ap (λ zs. slice_get zs k) (sym grown) ∙ at)) [
      | inl before ↦ each k x before
      | inr last ↦ subst (P k) last.1 (subst (λ n. P n y) (sym (last.0 ∙ long)) here)
    ]

pub none_yet : {A : Type 0} (P : ℕ → A → Type 0) → Each P []
none_yet P k x at = absurd (cc)
