-- Members of lists.
use Rattle.std.proofs.Common.{◌≡◌, ◌⊎◌, inl, inr, ℕ, ◌<◌, zero, suc, List, [], ◌∷◌, length, map, arith, refl, subst}
use Rattle.std.specs.Prelude.{All, Contains, slice_index_or}
use Rattle.std.proofs.lemmas.List.Elements.{All-weaker, All-contains_itself}

pub at_front : {A : Type 0} (x : A) (xs : List A) → Contains (x ∷ xs) x
at_front x xs = (0, omega arith, refl)

pub behind : {A : Type 0} (y : A) (xs : List A) (x : A) → Contains xs x → Contains (y ∷ xs) x
behind y xs x c = (suc c.0, let h = c.1 in omega arith, c.2)

pub none_in : {A : Type 0} (x : A) → Contains [] x → ⊥
none_in x h = let below : h.0 < 0 = h.1 in omega arith

pub front_or_behind : {A : Type 0} (y : A) (xs : List A) (x : A) → Contains (y ∷ xs) x → (y ≡ x) ⊎ Contains xs x
front_or_behind y xs x c = at c.0 c.1 c.2
  where
    at : (k : ℕ) → k < suc (length xs) → slice_index_or (y ∷ xs) k x ≡ x → (y ≡ x) ⊎ Contains xs x
    at zero below is = inl is
    at (suc k) below is = inr (k, omega arith, is)

pub in_map : {A B : Type 0} (f : A → B) (xs : List A) (x : A) → Contains xs x → Contains (map f xs) (f x)
in_map f [] x h = absurd (none_in x h)
in_map f (y ∷ xs) x h = by (in_map f xs x) (front_or_behind y xs x h)
  where
    by : (Contains xs x → Contains (map f xs) (f x)) → (y ≡ x) ⊎ Contains xs x → Contains (f y ∷ map f xs) (f x)
    by again (inl e) = subst (λ z. Contains (f y ∷ map f xs) (f z)) e (at_front (f y) (map f xs))
    by again (inr m) = behind (f y) (map f xs) (f x) (again m)

-- what holds of each member holds of all
pub each : {A : Type 0} (P : A → Type 0) (xs : List A) → ((x : A) → Contains xs x → P x) → All P xs
each P xs f = All-weaker (Contains xs) P f xs (All-contains_itself xs)
