-- What holds of each element of a list, by the list's form.
use Rattle.std.proofs.Common.{Bool, true, false, not, List, [], ◌∷◌, ◌++◌, All, map}
use Rattle.std.specs.Prelude.{cond, filter, flat_map}
use Rattle.std.proofs.lemmas.List.Elements.{All-head, All-tail}
use Rattle.table_format.specs.Rules.{distinct}

abbrev pub Every : {A : Type 0} → (A → Type 0) → List A → Type 0
Every P [] = Unit {0}
Every P (x ∷ xs) = P x × Every P xs

pub every_of : {A : Type 0} (P : A → Type 0) (xs : List A) → All P xs → Every P xs
every_of P [] all = tt
every_of P (x ∷ xs) all = (All-head P x xs all, every_of P xs (All-tail P x xs all))

pub weaker : {A : Type 0} (P Q : A → Type 0) → ((x : A) → P x → Q x) → (xs : List A) → Every P xs → Every Q xs
weaker P Q less [] all = tt
weaker P Q less (x ∷ xs) all = (less x all.0, weaker P Q less xs all.1)

pub both : {A : Type 0} (P : A → Type 0) (xs ys : List A) → Every P xs → Every P ys → Every P (xs ++ ys)
both P [] ys one other = other
both P (x ∷ xs) ys one other = (one.0, both P xs ys one.1 other)

pub left_of : {A : Type 0} (P : A → Type 0) (xs ys : List A) → Every P (xs ++ ys) → Every P xs
left_of P [] ys all = tt
left_of P (x ∷ xs) ys all = (all.0, left_of P xs ys all.1)

pub right_of : {A : Type 0} (P : A → Type 0) (xs ys : List A) → Every P (xs ++ ys) → Every P ys
right_of P [] ys all = all
right_of P (x ∷ xs) ys all = right_of P xs ys all.1

pub every_map : {A B : Type 0} (P : B → Type 0) (f : A → B) (xs : List A) → Every (λ x. P (f x)) xs → Every P (map f xs)
every_map P f [] all = tt
every_map P f (x ∷ xs) all = (all.0, every_map P f xs all.1)

pub of_map : {A B : Type 0} (P : B → Type 0) (f : A → B) (xs : List A) → Every P (map f xs) → Every (λ x. P (f x)) xs
of_map P f [] all = tt
of_map P f (x ∷ xs) all = (all.0, of_map P f xs all.1)

pub every_flat : {A B : Type 0} (P : B → Type 0) (f : A → List B) (xs : List A) → Every (λ x. Every P (f x)) xs → Every P (flat_map f xs)
every_flat P f [] all = tt
every_flat P f (x ∷ xs) all = both P (f x) (flat_map f xs) all.0 (every_flat P f xs all.1)

kept : {A : Type 0} (P : A → Type 0) (b : Bool) (x : A) (xs : List A) → P x → Every P xs → Every P (cond b (x ∷ xs) xs)
kept P true x xs one all = (one, all)
kept P false x xs one all = all

pub every_filter : {A : Type 0} (P : A → Type 0) (test : A → Bool) (xs : List A) → Every P xs → Every P (filter test xs)
every_filter P test [] all = tt
every_filter P test (x ∷ xs) all = kept P (test x) x (filter test xs) all.0 (every_filter P test xs all.1)

pub every_distinct : {A : Type 0} (P : A → Type 0) (same : A → A → Bool) (xs : List A) → Every P xs → Every P (distinct same xs)
every_distinct P same [] all = tt
every_distinct P same (x ∷ xs) all = (all.0, every_filter P (λ y. not (same x y)) (distinct same xs) (every_distinct P same xs all.1))
