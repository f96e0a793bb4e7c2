-- Elements of lists, and the first element of a name.
use Rattle.std.proofs.Common.{◌≡◌, ◌≤◌, ◌+◌, ℕ, ◌⊎◌, inl, inr, Bool, true, false, not, List, [], ◌∷◌, ◌++◌, Option, Some, None, length, map, bytes_eq, refl, ap, sym, ◌∙◌, subst, arith}
use Rattle.std.specs.Prelude.{cond, filter, flat_map, find}
use Rattle.table_format.specs.Rules.{distinct}
use Rattle.table_law.proofs.Lists.{Every}
use Rattle.table_law.proofs.Few.{same_is, same_self}

abbrev pub Elem : {A : Type 0} → A → List A → Type 0
Elem x [] = ⊥
Elem x (y ∷ ys) = (x ≡ y) ⊎ Elem x ys

pub elem_left : {A : Type 0} (x : A) (xs ys : List A) → Elem x xs → Elem x (xs ++ ys)
elem_left x [] ys e = absurd e
elem_left x (y ∷ xs) ys (inl is) = inl is
elem_left x (y ∷ xs) ys (inr e) = inr (elem_left x xs ys e)

pub elem_right : {A : Type 0} (x : A) (xs ys : List A) → Elem x ys → Elem x (xs ++ ys)
elem_right x [] ys e = e
elem_right x (y ∷ xs) ys e = inr (elem_right x xs ys e)

pub elem_map : {A B : Type 0} (f : A → B) (x : A) (xs : List A) → Elem x xs → Elem (f x) (map f xs)
elem_map f x [] e = absurd e
elem_map f x (y ∷ xs) (inl is) = inl (ap f is)
elem_map f x (y ∷ xs) (inr e) = inr (elem_map f x xs e)

pub elem_flat : {A B : Type 0} (f : A → List B) (b : B) (x : A) (xs : List A) → Elem b (f x) → Elem x xs → Elem b (flat_map f xs)
elem_flat f b x [] in_it e = absurd e
elem_flat f b x (y ∷ xs) in_it (inl is) = elem_left b (f y) (flat_map f xs) (subst (λ z. Elem b (f z)) is in_it)
elem_flat f b x (y ∷ xs) in_it (inr e) = elem_right b (f y) (flat_map f xs) (elem_flat f b x xs in_it e)

kept_first : {A : Type 0} (b : Bool) (x y : A) (rest : List A) → b ≡ true → x ≡ y → Elem x (cond b (y ∷ rest) rest)
kept_first true x y rest passes is = inl is
kept_first false x y rest passes is = absurd cc

kept_rest : {A : Type 0} (b : Bool) (x y : A) (rest : List A) → Elem x rest → Elem x (cond b (y ∷ rest) rest)
kept_rest true x y rest e = inr e
kept_rest false x y rest e = e

pub elem_filter : {A : Type 0} (test : A → Bool) (x : A) (xs : List A) → test x ≡ true → Elem x xs → Elem x (filter test xs)
elem_filter test x [] passes e = absurd e
elem_filter test x (y ∷ xs) passes (inl is) = kept_first (test y) x y (filter test xs) (ap test (sym is) ∙ passes) is
elem_filter test x (y ∷ xs) passes (inr e) = kept_rest (test y) x y (filter test xs) (elem_filter test x xs passes e)

pub elem_distinct : {A : Type 0} (same : A → A → Bool) → ((x y : A) → same x y ≡ true → x ≡ y) → (x : A) (xs : List A) → Elem x xs → Elem x (distinct same xs)
elem_distinct same means x [] e = absurd e
elem_distinct same means x (y ∷ xs) (inl is) = inl is
elem_distinct same means x (y ∷ xs) (inr e) = by (same y x) refl (elem_distinct same means x xs e)
  where
    by : (b : Bool) → same y x ≡ b → Elem x (distinct same xs) → Elem x (y ∷ filter (λ z. not (same y z)) (distinct same xs))
    by true is rest = inl (sym (means y x is))
    by false is rest = inr (elem_filter (λ z. not (same y z)) x (distinct same xs) (ap not is) rest)

pub elem_some : {A : Type 0} (x : A) (xs : List A) → Elem x xs → 1 ≤ length xs
elem_some x [] e = absurd e
elem_some x (y ∷ xs) e = omega arith

pub elem_of : {A : Type 0} (P : A → Type 0) (x : A) (xs : List A) → Every P xs → Elem x xs → P x
elem_of P x [] all e = absurd e
elem_of P x (y ∷ xs) all (inl is) = subst P (sym is) all.0
elem_of P x (y ∷ xs) all (inr e) = elem_of P x xs all.1 e

-- the one element of that name is found
pub first_named : {A B C : Type 0} (h : B → C) (f : A → B) (name : C → List ℕ) (n : List ℕ) (x : A) (xs : List A)
    → Elem x xs → Every (λ y. name (h (f y)) ≡ n → y ≡ x) xs → name (h (f x)) ≡ n → find (λ c. bytes_eq (name c) n) (map h (map f xs)) ≡ Some (h (f x))
first_named h f name n x [] e sole is = absurd e
first_named {A} {B} {C} h f name n x (y ∷ xs) e sole is = by (bytes_eq (name (h (f y))) n) refl e (λ more. first_named h f name n x xs more sole.1 is)
  where
    by : (b : Bool) → bytes_eq (name (h (f y))) n ≡ b → Elem x (y ∷ xs) → (Elem x xs → find (λ c. bytes_eq (name c) n) (map h (map f xs)) ≡ Some (h (f x)))
        → cond b (Some (h (f y))) (find (λ c. bytes_eq (name c) n) (map h (map f xs))) ≡ Some (h (f x))
    by true same e later = ap (λ z. Some (h (f z))) (sole.0 (same_is (name (h (f y))) n same))
    by false same (inl first) later =
        (let equal : bytes_eq (name (h (f y))) n ≡ true = ap (λ z. bytes_eq (name (h (f z))) n) (sym first) ∙ ap (λ m. bytes_eq m n) is ∙ same_self n in
        absurd cc)
    by false same (inr more) later = later more
