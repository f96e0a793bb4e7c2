-- Two places of one position; and what is made of two trees with the same positions, part by part.
use Rattle.std.proofs.Common.{◌≡◌, Bool, true, false, List, [], ◌∷◌, ◌++◌, map, Option, Some, None, is_some, refl, sym, ◌∙◌, subst}
use Rattle.std.specs.Prelude.{if◌then◌else◌}
use Rattle.syntax_tree.specs.declared.place.Place.{Place}
use Rattle.syntax_tree.specs.Parts.{same_place}
use Rattle.printed_law.specs.Alike.{AreAlike}

-- two things of one position, as its two places
pub record Both {X A : Type 0} (a b : X → A) (p q : A) : Type 0 where
  pub at : X
  pub one : p ≡ a at
  pub two : q ≡ b at

pub here : {X A : Type 0} (a b : X → A) (x : X) → Both a b (a x) (b x)
here a b x = record { at = x; one = refl; two = refl }

-- what holds of the two things of each position
pub along : {X A : Type 0} (a b : X → A) (P : A → A → Type 0) → ((x : X) → P (a x) (b x)) → (p q : A) → Both a b p q → P p q
along a b P holds p q both = subst (λ u. P u q) (sym both.one) (subst (λ v. P (a both.at) v) (sym both.two) (holds both.at))

pub both-same : {X : Type 0} (a b : X → Place) → AreAlike a b → (p q r s : Place) → Both a b p q → Both a b r s → same_place p r ≡ same_place q s
both-same a b alike p q r s m n =
    let first : same_place p r ≡ same_place (a m.at) (a n.at) = λ i. same_place (m.one i) (n.one i) in
    let last : same_place q s ≡ same_place (b m.at) (b n.at) = λ i. same_place (m.two i) (n.two i) in
    first ∙ alike m.at n.at ∙ sym last

-- ---- options and lists

-- there is one just where there is the other, and then they are related
abbrev pub Likewise : {A B : Type 0} → (A → B → Type 0) → Option A → Option B → Type 0
Likewise R None None = Unit {0}
Likewise R (Some x) (Some y) = R x y
Likewise R None (Some y) = ⊥
Likewise R (Some x) None = ⊥

-- lists of one length, related one by one
abbrev pub Pairwise : {A B : Type 0} → (A → B → Type 0) → List A → List B → Type 0
Pairwise R [] [] = Unit {0}
Pairwise R (x ∷ xs) (y ∷ ys) = R x y × Pairwise R xs ys
Pairwise R [] (y ∷ ys) = ⊥
Pairwise R (x ∷ xs) [] = ⊥

pub both-some : {A B : Type 0} (R : A → B → Type 0) (x : Option A) (y : Option B) → Likewise R x y → is_some x ≡ is_some y
both-some R None None like = refl
both-some R (Some x) (Some y) like = refl
both-some R None (Some y) like = absurd like
both-some R (Some x) None like = absurd like

pub chosen : {A B : Type 0} (R : A → B → Type 0) (c d : Bool) → c ≡ d → (x u : A) (y v : B) → R x y → R u v → R (if c then x else u) (if d then y else v)
chosen R true true same x u y v one two = one
chosen R false false same x u y v one two = two
chosen R true false same x u y v one two = cc
chosen R false true same x u y v one two = cc

pub appended : {A B : Type 0} (R : A → B → Type 0) (xs us : List A) (ys vs : List B) → Pairwise R xs ys → Pairwise R us vs → Pairwise R (xs ++ us) (ys ++ vs)
appended R [] us [] vs first rest = rest
appended R (x ∷ xs) us (y ∷ ys) vs first rest = (first.0, appended R xs us ys vs first.1 rest)
appended R [] us (y ∷ ys) vs first rest = absurd first
appended R (x ∷ xs) us [] vs first rest = absurd first

-- what two functions make of the parts that two others make of a list
pub mapped : {A B C D E : Type 0} (R : D → E → Type 0) (f : A → B) (g : A → C) (k : B → D) (l : C → E) → ((x : A) → R (k (f x)) (l (g x))) → (xs : List A) → Pairwise R (map k (map f xs)) (map l (map g xs))
mapped R f g k l like [] = tt
mapped R f g k l like (x ∷ xs) = (like x, mapped R f g k l like xs)
