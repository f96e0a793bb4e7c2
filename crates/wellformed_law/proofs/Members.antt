-- Members of lists by recursion, and lists that end in other lists.
use Rattle.std.proofs.Common.{◌≡◌, ℕ, ◌+◌, ◌<◌, ◌≤◌, zero, suc, ◌⊎◌, inl, inr, Bool, cond, List, [], ◌∷◌, ◌++◌, length, map, refl, ap, sym, subst, ◌∙◌, arith, append_assoc}
use Rattle.std.specs.Prelude.{Contains, count_by, slice_index_or}
use Rattle.std.proofs.lemmas.List.Sums.{sum_by-append}
use Rattle.base.proofs.Members.{at_front, behind}

abbrev pub In : {X : Type 0} → List X → X → Type 0
In [] x = ⊥
In (y ∷ ys) x = (y ≡ x) ⊎ In ys x

pub in-contains : {X : Type 0} (xs : List X) (x : X) → In xs x → Contains xs x
in-contains [] x i = absurd i
in-contains (y ∷ ys) x (inl e) = subst (Contains (y ∷ ys)) e (at_front y ys)
in-contains (y ∷ ys) x (inr i) = behind y ys x (in-contains ys x i)

pub contains-in : {X : Type 0} (xs : List X) (x : X) → Contains xs x → In xs x
contains-in {X} xs x c = at xs c.0 c.1 c.2
  where
    at : (ys : List X) (k : ℕ) → k < length ys → slice_index_or ys k x ≡ x → In ys x
    at [] k below is = absurd (omega arith)
    at (y ∷ ys) zero below is = inl is
    at (y ∷ ys) (suc k) below is = inr (at ys k (omega arith) is)

pub in-left : {X : Type 0} (xs ys : List X) (x : X) → In xs x → In (xs ++ ys) x
in-left [] ys x i = absurd i
in-left (z ∷ xs) ys x (inl e) = inl e
in-left (z ∷ xs) ys x (inr i) = inr (in-left xs ys x i)

pub in-right : {X : Type 0} (xs ys : List X) (x : X) → In ys x → In (xs ++ ys) x
in-right [] ys x i = i
in-right (z ∷ xs) ys x i = inr (in-right xs ys x i)

pub in-middle : {X : Type 0} (before : List X) (x : X) (after : List X) → In (before ++ x ∷ after) x
in-middle before x after = in-right before (x ∷ after) x (inl refl)

pub in-map : {X Y : Type 0} (f : X → Y) (xs : List X) (x : X) → In xs x → In (map f xs) (f x)
in-map f [] x i = absurd i
in-map f (y ∷ ys) x (inl e) = inl (ap f e)
in-map f (y ∷ ys) x (inr i) = inr (in-map f ys x i)

-- ---- a list that ends in another

pub record Ends {X : Type 0} (more whole : List X) : Type 0 where
  pub front : List X
  pub is : whole ≡ front ++ more

pub ends-same : {X : Type 0} (xs : List X) → Ends xs xs
ends-same xs = record { front = []; is = refl }

pub ends-cons : {X : Type 0} {more whole : List X} (x : X) → Ends more whole → Ends more (x ∷ whole)
ends-cons x e = record { front = x ∷ e.front; is = ap (λ l. x ∷ l) e.is }

pub ends-two : {X : Type 0} {more mid whole : List X} → Ends more mid → Ends mid whole → Ends more whole
ends-two {more = more} e f = record { front = f.front ++ e.front; is = f.is ∙ ap (λ l. f.front ++ l) e.is ∙ sym (append_assoc f.front e.front more) }

pub ends-in : {X : Type 0} (more whole : List X) (x : X) → Ends more whole → In more x → In whole x
ends-in more whole x e i = subst (λ l. In l x) (sym e.is) (in-right e.front more x i)

pub ends-count : {X : Type 0} (p : X → Bool) (more whole : List X) → Ends more whole → count_by p more ≤ count_by p whole
ends-count p more whole e =
    let split : count_by p whole ≡ count_by p e.front + count_by p more = ap (count_by p) e.is ∙ sum_by-append (λ x. cond (p x) 1 0) e.front more in
    omega arith

pub count-cons : {X : Type 0} (p : X → Bool) (y : X) (ys : List X) → count_by p (y ∷ ys) ≡ cond (p y) 1 0 + count_by p ys
count-cons p y ys = sum_by-append (λ x. cond (p x) 1 0) (y ∷ []) ys ∙ ap (λ n. n + count_by p ys) (zero-first (cond (p y) 1 0))
  where
    zero-first : (n : ℕ) → 0 + n ≡ n
    zero-first n = omega arith

pub sum-first : (a b c : ℕ) → c ≡ a + b → a ≡ 1 → 1 ≤ c
sum-first a b c s e = omega arith

sum-second : (a b c : ℕ) → c ≡ a + b → 1 ≤ b → 1 ≤ c
sum-second a b c s e = omega arith
