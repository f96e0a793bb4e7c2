-- The first declaration of a name in a scope, and the first thing of a name in a list of things.
use Rattle.std.proofs.Common.{◌≡◌, inl, inr, Bool, true, false, cond, List, [], ◌∷◌, ◌++◌, map, Option, Some, None, refl, ap, sym, ◌∙◌}
use Rattle.std.specs.Prelude.{option_map}
use Rattle.std.proofs.lemmas.Slice.Eq.{bytes_eq-Decides}
use Rattle.std.proofs.lemmas.Option.{same_Some, none-some}
use Rattle.syntax_tree.specs.Plain.{Name}
use Rattle.static_names.specs.declared.kind.Declared.{Declared}
use Rattle.static_names.specs.Reach.{same, Names, first, or_else}
use Rattle.source_semantics.specs.Names.{named}
use Rattle.wellformed_law.proofs.Members.{In}
use Rattle.static_names.proofs.Scopes.{same-refl, same-symm}

pub same-is : (n k : Name) → same n k ≡ true → n ≡ k
same-is n k e = (bytes_eq-Decides n k).0 e

pub some-none : {X : Type 0} (a : X) → Some a ≡ None → ⊥
some-none a e = cc

-- ---- in a scope

-- what is declared in a scope is found there
pub first-not : (ds : Names) (e : Name × Declared) → In ds e → first ds e.0 ≡ None → ⊥
first-not [] e i n = i
first-not (c ∷ ds) e i n = by (same e.0 c.0) refl n i (first-not ds e)
  where
    by : (b : Bool) → same e.0 c.0 ≡ b → cond b (Some c.1) (first ds e.0) ≡ None → In (c ∷ ds) e → (In ds e → first ds e.0 ≡ None → ⊥) → ⊥
    by true s f j h = some-none c.1 f
    by false s f (inl q) h = let k : same e.0 c.0 ≡ true = ap (λ z. same e.0 z.0) q ∙ same-refl e.0 in cc
    by false s f (inr j) h = h j f

-- ---- in a list of things

module _ {A : Type 0} (name_of : A → Name) where
  pub named-step : (x : Name) (a : A) (things : List A) → same x (name_of a) ≡ false → named name_of x (a ∷ things) ≡ named name_of x things
  named-step x a things s = ap (λ b. cond b (Some a) (named name_of x things)) (same-symm (name_of a) x ∙ s)

  pub named-here : (x : Name) (a : A) (things : List A) → same x (name_of a) ≡ true → named name_of x (a ∷ things) ≡ Some a
  named-here x a things s = ap (λ b. cond b (Some a) (named name_of x things)) (same-symm (name_of a) x ∙ s)

  pub record NamedIn (things : List A) (x : Name) (a : A) : Type 0 where
    pub listed : In things a
    pub name : name_of a ≡ x

  pub named-in : (things : List A) (x : Name) (a : A) → named name_of x things ≡ Some a → NamedIn things x a
  named-in [] x a e = absurd (none-some a e)
  named-in (c ∷ things) x a e = by (same (name_of c) x) refl e (named-in things x a)
    where
      by : (b : Bool) → same (name_of c) x ≡ b → cond b (Some c) (named name_of x things) ≡ Some a → (named name_of x things ≡ Some a → NamedIn things x a) → NamedIn (c ∷ things) x a
      by true s f h = record { listed = inl (same_Some c a f); name = ap name_of (sym (same_Some c a f)) ∙ same-is (name_of c) x s }
      by false s f h = let l = h f in record { listed = inr l.listed; name = l.name }

-- names are kept where things are changed
pub named-map : {A B : Type 0} (f : A → B) (name_of : B → Name) (x : Name) (things : List A) → named name_of x (map f things) ≡ option_map f (named (λ a. name_of (f a)) x things)
named-map f name_of x [] = refl
named-map f name_of x (a ∷ things) = by (same (name_of (f a)) x) (named-map f name_of x things)
  where
    by : (b : Bool) → named name_of x (map f things) ≡ option_map f (named (λ a. name_of (f a)) x things) → cond b (Some (f a)) (named name_of x (map f things)) ≡ option_map f (cond b (Some a) (named (λ a. name_of (f a)) x things))
    by true h = refl
    by false h = h

pub named-append : {A : Type 0} (name_of : A → Name) (x : Name) (things others : List A) → named name_of x things ≡ None → named name_of x (things ++ others) ≡ named name_of x others
named-append name_of x [] others n = refl
named-append name_of x (a ∷ things) others n = by (same (name_of a) x) n (named-append name_of x things others)
  where
    by : (b : Bool) → cond b (Some a) (named name_of x things) ≡ None → (named name_of x things ≡ None → named name_of x (things ++ others) ≡ named name_of x others) → cond b (Some a) (named name_of x (things ++ others)) ≡ named name_of x others
    by true f h = absurd (some-none a f)
    by false f h = h f

pub named-front : {A : Type 0} (name_of : A → Name) (x : Name) (a : A) (things others : List A) → named name_of x things ≡ Some a → named name_of x (things ++ others) ≡ Some a
named-front name_of x a [] others n = absurd (none-some a n)
named-front name_of x a (c ∷ things) others n = by (same (name_of c) x) n (named-front name_of x a things others)
  where
    by : (b : Bool) → cond b (Some c) (named name_of x things) ≡ Some a → (named name_of x things ≡ Some a → named name_of x (things ++ others) ≡ Some a) → cond b (Some c) (named name_of x (things ++ others)) ≡ Some a
    by true f h = f
    by false f h = h f

-- ---- a scope that is made of things

module _ {A : Type 0} (label : A → Name × Declared) where
  abbrev pub label_name : A → Name
  label_name a = (label a).0

  -- the thing that the scope finds is the one that has the name
  pub record FoundBy (things : List A) (x : Name) (d : Declared) : Type 0 where
    pub one : A
    pub listed : In things one
    pub is : (label one).1 ≡ d
    pub found : named label_name x things ≡ Some one

  pub found-by : (things : List A) (x : Name) (d : Declared) → first (map label things) x ≡ Some d → FoundBy things x d
  found-by [] x d e = absurd (none-some d e)
  found-by (a ∷ things) x d e = by (same x (label a).0) refl e (found-by things x d)
    where
      by : (b : Bool) → same x (label a).0 ≡ b → cond b (Some (label a).1) (first (map label things) x) ≡ Some d → (first (map label things) x ≡ Some d → FoundBy things x d) → FoundBy (a ∷ things) x d
      by true s f h = record { one = a; listed = inl refl; is = same_Some (label a).1 d f; found = named-here label_name x a things s }
      by false s f h = let l = h f in record { one = l.one; listed = inr l.listed; is = l.is; found = named-step label_name x a things s ∙ l.found }

  pub not-found-by : (things : List A) (x : Name) → first (map label things) x ≡ None → named label_name x things ≡ None
  not-found-by [] x e = refl
  not-found-by (a ∷ things) x e = by (same x (label a).0) refl e (not-found-by things x)
    where
      by : (b : Bool) → same x (label a).0 ≡ b → cond b (Some (label a).1) (first (map label things) x) ≡ None → (first (map label things) x ≡ None → named label_name x things ≡ None) → named label_name x (a ∷ things) ≡ None
      by true s f h = absurd (some-none (label a).1 f)
      by false s f h = named-step label_name x a things s ∙ h f

pub or_else-first : {X : Type 0} (a b : Option X) → or_else a b ≡ None → a ≡ None
or_else-first None b e = refl
or_else-first (Some x) b e = absurd (some-none x e)

pub or_else-second : {X : Type 0} (a b : Option X) → or_else a b ≡ None → b ≡ None
or_else-second None b e = e
or_else-second (Some x) b e = absurd (some-none x e)

-- where a name stands in one scope or another
pub data Either {X : Type 0} (a b : Option X) (x : X) : Type 0 where
  in_first : a ≡ Some x → Either a b x
  in_second : a ≡ None → b ≡ Some x → Either a b x

pub either : {X : Type 0} (a b : Option X) (x : X) → or_else a b ≡ Some x → Either a b x
either None b x e = in_second refl e
either (Some y) b x e = in_first e
