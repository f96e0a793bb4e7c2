-- Which declaration of a name is the first one in a list.
use Rattle.std.proofs.Common.{◌≡◌, ◌≢◌, ◌⊎◌, inl, inr, Bool, true, false, List, [], ◌∷◌, ◌++◌, Option, Some, None, map, refl, ap, sym, ◌∙◌, subst}
use Rattle.std.specs.Prelude.{if◌then◌else◌}
use Rattle.syntax_tree.specs.Plain.{Name}
use Rattle.static_names.specs.declared.kind.Declared.{Declared}
use Rattle.static_names.specs.declared.kind.Kind.{Kind}
use Rattle.static_names.specs.declared.kind.Kind.TheVariants as kind_is
use Rattle.static_names.specs.Reach.{same, Names, first}
use Rattle.table_law.proofs.Lists.{Every}
use Rattle.table_law.proofs.Few.{same_is, same_self}
use Rattle.table_law.proofs.Apart.{Apart}
use Rattle.table_law.proofs.Bodies.{kind_of}

abbrev pub Elem : {A : Type 0} → A → List A → Type 0
Elem x [] = ⊥
Elem x (y ∷ ys) = (x ≡ y) ⊎ Elem x ys

pub elem_left : {A : Type 0} (x : A) (xs ys : List A) → Elem x xs → Elem x (xs ++ ys)
elem_left x [] ys e = absurd e
elem_left x (y ∷ xs) ys (inl is) = inl is
elem_left x (y ∷ xs) ys (inr e) = inr (elem_left x xs ys e)

pub elem_right : {A : Type 0} (x : A) (xs ys : List A) → Elem x ys → Elem x (xs ++ ys)
elem_right x [] ys e = e
elem_right x (y ∷ xs) ys e = inr (elem_right x xs ys e)

pub elem_map : {A B : Type 0} (f : A → B) (x : A) (xs : List A) → Elem x xs → Elem (f x) (map f xs)
elem_map f x [] e = absurd e
elem_map f x (y ∷ xs) (inl is) = inl (ap f is)
elem_map f x (y ∷ xs) (inr e) = inr (elem_map f x xs e)

pub elem_of : {A : Type 0} (P : A → Type 0) (x : A) (xs : List A) → Every P xs → Elem x xs → P x
elem_of P x [] all e = absurd e
elem_of P x (y ∷ xs) all (inl is) = subst P (sym is) all.0
elem_of P x (y ∷ xs) all (inr e) = elem_of P x xs all.1 e

pub each_of : {A : Type 0} (P : A → Type 0) (xs : List A) → ((x : A) → Elem x xs → P x) → Every P xs
each_of P [] all = tt
each_of P (x ∷ xs) all = (all x (inl refl), each_of P xs (λ y e. all y (inr e)))

-- an element that gives this one
pub record Source {A B : Type 0} (f : A → B) (xs : List A) (y : B) : Type 0 where
  pub one : A
  pub there : Elem one xs
  pub like : f one ≡ y

pub source_of : {A B : Type 0} (f : A → B) (xs : List A) (ys : List B) (y : B) → map f xs ≡ ys → Elem y ys → Source f xs y
source_of f [] [] y is e = absurd e
source_of f [] (z ∷ ys) y is e = absurd cc
source_of f (x ∷ xs) [] y is e = absurd e
source_of f (x ∷ xs) (z ∷ ys) y is (inl same) = (let first : f x ≡ z = cc in record { one = x; there = inl refl; like = first ∙ sym same })
source_of f (x ∷ xs) (z ∷ ys) y is (inr e) =
    (let rest : map f xs ≡ ys = cc in let it = source_of f xs ys y rest e in record { one = it.one; there = inr it.there; like = it.like })

-- ---- names

pub differs : (a b : Name) → a ≢ b → same a b ≡ false
differs a b far = by (same a b) refl
  where
    by : (x : Bool) → same a b ≡ x → x ≡ false
    by true is = absurd (far (same_is a b is))
    by false is = refl

pub none_first : (ds : Names) (n : Name) → Every (λ d. same n d.0 ≡ false) ds → first ds n ≡ None
none_first [] n all = refl
none_first (d ∷ ds) n all = ap (λ b. if b then Some d.1 else first ds n) all.0 ∙ none_first ds n all.1

pub first_more : (ds : Names) (d : Name × Declared) (n : Name) → first ds n ≡ None → same n d.0 ≡ false → first (ds ++ d ∷ []) n ≡ None
first_more [] d n none far = ap (λ b. if b then Some d.1 else first [] n) far
first_more (c ∷ ds) d n none far = by (same n c.0) refl none (λ rest. first_more ds d n rest far)
  where
    by : (b : Bool) → same n c.0 ≡ b → (if b then Some c.1 else first ds n) ≡ None → (first ds n ≡ None → first (ds ++ d ∷ []) n ≡ None)
        → (if b then Some c.1 else first (ds ++ d ∷ []) n) ≡ None
    by true is some later = absurd cc
    by false is rest later = later rest

-- where names differ, an element is the first of its name
pub first_of : (ds : Names) (d : Name × Declared) → Apart (map (λ c. c.0) ds) → Elem d ds → first ds d.0 ≡ Some d.1
first_of [] d apart e = absurd e
first_of (c ∷ ds) d apart (inl is) =
    (let names : same d.0 c.0 ≡ true = ap (λ x. same x.0 c.0) is ∙ same_self c.0 in
    ap (λ b. if b then Some c.1 else first ds d.0) names ∙ ap (λ x. Some x.1) (sym is))
first_of (c ∷ ds) d apart (inr e) =
    (let far = elem_of (λ n. c.0 ≢ n) d.0 (map (λ x. x.0) ds) apart.0 (elem_map (λ x. x.0) d ds e) in
    ap (λ b. if b then Some c.1 else first ds d.0) (differs d.0 c.0 (λ is. far (sym is))) ∙ first_of ds d apart.1 e)

-- where all are of one kind, so is the first of a name that is there
pub kind_first : (k : Kind) (ds : Names) (n : Name) → Every (λ d. d.1.kind ≡ k) ds → Elem n (map (λ d. d.0) ds) → kind_of (first ds n) ≡ Some k
kind_first k [] n all e = absurd e
kind_first k (d ∷ ds) n all e = by (same n d.0) refl e (λ more. kind_first k ds n all.1 more)
  where
    by : (b : Bool) → same n d.0 ≡ b → Elem n (d.0 ∷ map (λ c. c.0) ds) → (Elem n (map (λ c. c.0) ds) → kind_of (first ds n) ≡ Some k)
        → kind_of (if b then Some d.1 else first ds n) ≡ Some k
    by true is there later = ap (λ x. Some x) all.0
    by false is (inl here) later = (let wrong : same n d.0 ≡ true = ap (same n) (sym here) ∙ same_self n in absurd cc)
    by false is (inr more) later = later more
