-- Lists in which each element stands once.
use Rattle.std.proofs.Common.{◌≡◌, List, [], ◌∷◌, ◌++◌, Bool, true, false, not, ◌||◌, cond, refl, ap, sym, subst, ◌∙◌, append-nil}
use Rattle.std.specs.Prelude.{filter, if◌then◌else◌}
use Rattle.std.specs.List.{list_any}
use Rattle.std.proofs.lemmas.List.Elements.{filter-append}
use Rattle.table_format.specs.Rules.{distinct}

-- an element behind others, unless it is one of them
abbrev pub with_one : {A : Type 0} → (same : A → A → Bool) → List A → A → List A
with_one same xs y = if list_any (λ z. same z y) xs then xs else xs ++ y ∷ []

-- all but those that are the same as x
abbrev pub but : {A : Type 0} → (same : A → A → Bool) → A → List A → List A
but same x xs = filter (λ z. not (same x z)) xs

-- one element more, of which it is known whether it stays
any_one : {A : Type 0} (same : A → A → Bool) (is : (x y : A) → same x y ≡ true → x ≡ y) (x y z : A) (xs : List A) → same x y ≡ false
    → list_any (λ w. same w y) (but same x xs) ≡ list_any (λ w. same w y) xs → (b : Bool) → same x z ≡ b
    → list_any (λ w. same w y) (cond (not b) (z ∷ but same x xs) (but same x xs)) ≡ (same z y || list_any (λ w. same w y) xs)
any_one {A} same is x y z xs other rest true e =
    let no : same z y ≡ false = subst (λ (w : A). same w y ≡ false) (is x z e) other in
    rest ∙ sym (ap (λ b. b || list_any (λ w. same w y) xs) no)
any_one same is x y z xs other rest false e = ap (λ b. same z y || b) rest

any_but : {A : Type 0} (same : A → A → Bool) (is : (x y : A) → same x y ≡ true → x ≡ y) (x y : A) → same x y ≡ false → (xs : List A)
    → list_any (λ z. same z y) (but same x xs) ≡ list_any (λ z. same z y) xs
any_but same is x y other [] = refl
any_but same is x y other (z ∷ xs) = any_one same is x y z xs other (any_but same is x y other xs) (same x z) refl

with_but : {A : Type 0} (same : A → A → Bool) (is : (x y : A) → same x y ≡ true → x ≡ y) (x y : A) (xs : List A)
    → but same x (with_one same xs y) ≡ cond (same x y) (but same x xs) (with_one same (but same x xs) y)
with_but {A} same is x y xs = at (same x y) (list_any (λ z. same z y) xs) refl refl
  where
    at : (b any : Bool) → same x y ≡ b → list_any (λ z. same z y) xs ≡ any
        → but same x (cond any xs (xs ++ y ∷ [])) ≡ cond b (but same x xs) (with_one same (but same x xs) y)
    at true true e f = refl
    at false true e f = sym (ap (λ a. cond a (but same x xs) (but same x xs ++ y ∷ [])) (any_but same is x y e xs ∙ f))
    at true false e f =
        filter-append (λ z. not (same x z)) xs (y ∷ []) ∙ ap (λ b. but same x xs ++ cond (not b) (y ∷ []) []) e ∙ append-nil (but same x xs)
    at false false e f =
        filter-append (λ z. not (same x z)) xs (y ∷ []) ∙ ap (λ b. but same x xs ++ cond (not b) (y ∷ []) []) e
        ∙ sym (ap (λ a. cond a (but same x xs) (but same x xs ++ y ∷ [])) (any_but same is x y e xs ∙ f))

-- one more element
pub distinct_more : {A : Type 0} (same : A → A → Bool) (is : (x y : A) → same x y ≡ true → x ≡ y) (xs : List A) (y : A)
    → distinct same (xs ++ y ∷ []) ≡ with_one same (distinct same xs) y
distinct_more same is [] y = refl
distinct_more {A} same is (x ∷ xs) y =
    ap (λ (t : List A). x ∷ but same x t) (distinct_more same is xs y) ∙ ap (λ (t : List A). x ∷ t) (with_but same is x y (distinct same xs))
    ∙ at (same x y) (list_any (λ z. same z y) (but same x (distinct same xs))) refl
  where
    at : (b any : Bool) → list_any (λ z. same z y) (but same x (distinct same xs)) ≡ any
        → x ∷ cond b (but same x (distinct same xs)) (cond any (but same x (distinct same xs)) (but same x (distinct same xs) ++ y ∷ []))
        ≡ cond (b || any) (x ∷ but same x (distinct same xs)) (x ∷ (but same x (distinct same xs) ++ y ∷ []))
    at true any f = refl
    at false true f = refl
    at false false f = refl
