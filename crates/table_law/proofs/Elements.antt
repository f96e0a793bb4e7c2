-- Elements of lists: where they stand, and which of them pass a test.
use Rattle.std.proofs.Common.{◌≡◌, inl, inr, ℕ, zero, suc, Bool, true, nat_eq, List, [], ◌∷◌, Option, Some, map, Contains, refl, ap, sym, ◌∙◌, arith}
use Rattle.std.specs.Prelude.{slice_get}
use Rattle.std.proofs.lemmas.Bool.{eqb-true, eq-eqb, or_cases, or_left, or_right}
use Rattle.source_semantics.specs.Ranks.{includes}
use Rattle.code_spec.specs.Numbering.{Text, Called}
use Rattle.sched_response.specs.Ranked.{IsGreatest}
use Rattle.sched_program.specs.Tasks.{passes_some, some_called}
use Rattle.table_law.proofs.Members.{Elem}

pub elem_from : {A : Type 0} (xs : List A) (x : A) → Contains xs x → Elem x xs
elem_from [] x at = (let lt = at.1 in absurd (omega (arith, lt)))
elem_from (y ∷ xs) x (zero, lt, is) = inl (sym is)
elem_from (y ∷ xs) x (suc k, lt, is) = inr (elem_from xs x (k, omega (arith, lt), is))

pub contains_from : {A : Type 0} (xs : List A) (x : A) → Elem x xs → Contains xs x
contains_from [] x e = absurd e
contains_from (y ∷ xs) x (inl is) = (0, omega arith, sym is)
contains_from (y ∷ xs) x (inr e) = (let c = contains_from xs x e in let lt = c.1 in (suc c.0, omega (arith, lt), c.2))

pub elem_at : {A : Type 0} (x : A) (xs : List A) → Elem x xs → (k : ℕ) × (slice_get xs k ≡ Some x)
elem_at x [] e = absurd e
elem_at x (y ∷ xs) (inl is) = (0, ap (λ z. Some z) (sym is))
elem_at x (y ∷ xs) (inr e) = (let r = elem_at x xs e in (suc r.0, r.1))

pub of_map : {A B : Type 0} (f : A → B) (y : B) (xs : List A) → Elem y (map f xs) → (x : A) × Elem x xs × (f x ≡ y)
of_map f y [] e = absurd e
of_map f y (x ∷ xs) (inl is) = (x, inl refl, sym is)
of_map f y (x ∷ xs) (inr e) = (let r = of_map f y xs e in (r.0, inr r.1, r.2))

pub got_map : {A B : Type 0} (f : A → B) (xs : List A) (k : ℕ) (y : B) → slice_get (map f xs) k ≡ Some y → (x : A) × (slice_get xs k ≡ Some x) × (y ≡ f x)
got_map f [] k y is = absurd cc
got_map f (x ∷ xs) zero y is = (x, refl, (let same : f x ≡ y = cc in sym same))
got_map f (x ∷ xs) (suc k) y is = got_map f xs k y is

-- ---- those that pass

pub included : {A : Type 0} (f : A → ℕ) (m : ℕ) (xs : List A) → includes m (map f xs) ≡ true → (x : A) × Elem x xs × (f x ≡ m)
included f m [] is = absurd cc
included f m (x ∷ xs) is = elim (or_cases (nat_eq (f x) m) (includes m (map f xs)) is) [
  | inl here ↦ (x, inl refl, eqb-true (f x) m here)
  | inr later ↦ (let r = included f m xs later in (r.0, inr r.1, r.2))
]

pub includes_it : {A : Type 0} (f : A → ℕ) (m : ℕ) (x : A) (xs : List A) → Elem x xs → f x ≡ m → includes m (map f xs) ≡ true
includes_it f m x [] e same = absurd e
includes_it f m x (y ∷ xs) (inl is) same = or_left (nat_eq (f y) m) (includes m (map f xs)) (eq-eqb (f y) m (ap f (sym is) ∙ same))
includes_it f m x (y ∷ xs) (inr e) same = or_right (nat_eq (f y) m) (includes m (map f xs)) (includes_it f m x xs e same)

module _ {A : Type 0} (test : Text → Bool) (means : Called → Option Text) (f : A → Called) where
  pub one_passes : (xs : List A) → some_called test means (map f xs) ≡ true → (x : A) × Elem x xs × (passes_some test (means (f x)) ≡ true)
  one_passes [] is = absurd cc
  one_passes (x ∷ xs) is = elim (or_cases (passes_some test (means (f x))) (some_called test means (map f xs)) is) [
    | inl here ↦ (x, inl refl, here)
    | inr later ↦ (let r = one_passes xs later in (r.0, inr r.1, r.2))
  ]

  pub passes_one : (x : A) (xs : List A) → Elem x xs → passes_some test (means (f x)) ≡ true → some_called test means (map f xs) ≡ true
  passes_one x [] e is = absurd e
  passes_one x (y ∷ xs) (inl same) is = or_left (passes_some test (means (f y))) (some_called test means (map f xs)) (ap (λ z. passes_some test (means (f z))) (sym same) ∙ is)
  passes_one x (y ∷ xs) (inr e) is = or_right (passes_some test (means (f y))) (some_called test means (map f xs)) (passes_one x xs e is)

-- ---- the greatest of the same numbers

pub same_greatest : (P Q : ℕ → Type 0) (b : ℕ) → ((n : ℕ) → P n → Q n) → ((n : ℕ) → Q n → P n) → IsGreatest P b → IsGreatest Q b
same_greatest P Q b on back g = record { most = λ n q. g.most n (back n q); one = elim g.one [ inl none ↦ inl none | inr some ↦ inr (on b some) ] }
