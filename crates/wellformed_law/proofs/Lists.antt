-- Members of lists, and where they stand.
use Rattle.std.proofs.Common.{◌≡◌, ℕ, ◌+◌, ◌≤◌, Bool, true, cond, List, [], ◌∷◌, ◌++◌, map, ◌⊎◌, inl, inr, refl, ap, sym, ◌∙◌, subst, arith}
use Rattle.std.specs.Prelude.{Contains, All, sum_by, count_by}
use Rattle.std.proofs.lemmas.List.Sums.{sum_by-append}
use Rattle.std.proofs.Math.Nat.{zero-add}
use Rattle.std.proofs.lemmas.List.Elements.{Contains-append_left, Contains-append_right, All-map}
use Rattle.base.proofs.Members.{at_front, behind, none_in, front_or_behind, each}

pub in_split : {X : Type 0} (xs before after : List X) (x : X) → xs ≡ before ++ x ∷ after → Contains xs x
in_split xs before after x is = subst (λ ys. Contains ys x) (sym is) (Contains-append_right before (x ∷ after) x (at_front x after))

pub each_map : {X Y : Type 0} (P : Y → Type 0) (f : X → Y) (xs : List X) → ((x : X) → Contains xs x → P (f x)) → All P (map f xs)
each_map P f xs h = All-map P f xs (each (λ x. P (f x)) xs h)

-- a member of the list whose picture this is
pub record Pictured {X Y : Type 0} (f : X → Y) (xs : List X) (y : Y) : Type 0 where
  pub one : X
  pub listed : Contains xs one
  pub is : f one ≡ y

pub from_map : {X Y : Type 0} (f : X → Y) (xs : List X) (y : Y) → Contains (map f xs) y → Pictured f xs y
from_map f [] y h = absurd (none_in y h)
from_map f (x ∷ xs) y h = by (from_map f xs y) (front_or_behind (f x) (map f xs) y h)
  where
    further : Pictured f xs y → Pictured f (x ∷ xs) y
    further p = record { one = p.one; listed = behind x xs p.one p.listed; is = p.is }

    by : (Contains (map f xs) y → Pictured f xs y) → (f x ≡ y) ⊎ Contains (map f xs) y → Pictured f (x ∷ xs) y
    by again (inl e) = record { one = x; listed = at_front x xs; is = e }
    by again (inr m) = further (again m)

pub same_members : {X : Type 0} (P : X → Type 0) (xs ys : List X) → xs ≡ ys → All P ys → All P xs
same_members P xs ys e h = subst (All P) (sym e) h

-- ---- what gives the things of its part, and then more

pub record Adds {X : Type 0} (f : List X → List X) : Type 0 where
  pub adds : (a b : List X) → f (a ++ b) ≡ f a ++ b

pub nothing_more : {X : Type 0} → Adds {X = X} (λ m. m)
nothing_more = record { adds = λ a b. refl }

pub both : {X : Type 0} {f g : List X → List X} → Adds f → Adds g → Adds (λ m. f (g m))
both {X} {f} {g} p q = record { adds = λ a b. ap f (q.adds a b) ∙ p.adds (g a) b }

pub one_more : {X : Type 0} (x : X) {f : List X → List X} → Adds f → Adds (λ m. x ∷ f m)
one_more x {f} p = record { adds = λ a b. ap (λ m. x ∷ m) (p.adds a b) }

-- all of it, whatever comes behind
pub front_part : {X : Type 0} {f : List X → List X} → Adds f → (more : List X) (x : X) → Contains (f []) x → Contains (f more) x
front_part {X} {f} p more x h = subst (λ xs. Contains xs x) (sym (p.adds [] more)) (Contains-append_left (f []) more x h)

pub rest_part : {X : Type 0} {f : List X → List X} → Adds f → (more : List X) (x : X) → Contains more x → Contains (f more) x
rest_part {X} {f} p more x h = subst (λ xs. Contains xs x) (sym (p.adds [] more)) (Contains-append_right (f []) more x h)

-- ---- counts

pub sum_cons : {X : Type 0} (f : X → ℕ) (x : X) (xs : List X) → sum_by f (x ∷ xs) ≡ f x + sum_by f xs
sum_cons f x xs = sum_by-append f (x ∷ []) xs ∙ ap (λ n. n + sum_by f xs) (zero-add (f x))

abbrev one_if : Bool → ℕ
one_if b = cond b 1 0

one_passed : {X : Type 0} (p : X → Bool) (y x : X) → y ≡ x → p x ≡ true → one_if (p y) ≡ 1
one_passed p y x e t = ap one_if (ap p e ∙ t)

counted : {X : Type 0} (p : X → Bool) (xs : List X) (x : X) → Contains xs x → p x ≡ true → 1 ≤ count_by p xs
counted p [] x h e = absurd (none_in x h)
counted {X} p (y ∷ xs) x h e = by (λ m. counted p xs x m e) (front_or_behind y xs x h)
  where
    by : (Contains xs x → 1 ≤ count_by p xs) → (y ≡ x) ⊎ Contains xs x → 1 ≤ count_by p (y ∷ xs)
    by again (inl w) = omega (arith, one_passed p y x w e, sum_cons (λ z. one_if (p z)) y xs)
    by again (inr m) = let l = again m in omega (arith, sum_cons (λ z. one_if (p z)) y xs)

-- of what passes at most once there is one
pub one_of : {X : Type 0} (p : X → Bool) (xs : List X) → count_by p xs ≤ 1 → (x y : X) → Contains xs x → Contains xs y → p x ≡ true → p y ≡ true → x ≡ y
one_of {X} p [] few x y h k d e = absurd (none_in x h)
one_of {X} p (z ∷ xs) few x y h k d e = by (λ l m n. one_of p xs l x y m n d e) (front_or_behind z xs x h) (front_or_behind z xs y k)
  where
    by : (count_by p xs ≤ 1 → Contains xs x → Contains xs y → x ≡ y) → (z ≡ x) ⊎ Contains xs x → (z ≡ y) ⊎ Contains xs y → x ≡ y
    by again (inl a) (inl b) = sym a ∙ b
    by again (inl a) (inr n) = let f = one_passed p z x a d in let l = counted p xs y n e in absurd (omega (arith, sum_cons (λ v. one_if (p v)) z xs))
    by again (inr m) (inl b) = let f = one_passed p z y b e in let l = counted p xs x m d in absurd (omega (arith, sum_cons (λ v. one_if (p v)) z xs))
    by again (inr m) (inr n) = again (omega (arith, sum_cons (λ v. one_if (p v)) z xs)) m n

-- ---- lists within others

abbrev pub Within : {X : Type 0} → List X → List X → Type 0
Within {X} xs ys = (x : X) → Contains xs x → Contains ys x

pub front : {X : Type 0} (ys : List X) {f : List X → List X} → Adds f → (more : List X) → Within (f more) ys → Within (f []) ys
front ys a more h x c = h x (front_part a more x c)

pub rest : {X : Type 0} (ys : List X) {f : List X → List X} → Adds f → (more : List X) → Within (f more) ys → Within more ys
rest ys a more h x c = h x (rest_part a more x c)
