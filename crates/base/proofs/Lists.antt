-- Lists by their elements.
use Rattle.std.proofs.Common.{◌≡◌, ◌≤◌, ◌<◌, ◌+◌, ◌++◌, ◌⊎◌, inl, inr, ℕ, zero, suc, List, [], ◌∷◌, length, take, drop, map, get_or, Option, Some, None, arith, refl, ap, sym, subst, ◌∙◌}
use Rattle.std.specs.Prelude.{All, slice_get, slice_set}
use Rattle.std.proofs.lemmas.Bool.{cases_lt}
use Rattle.std.proofs.lemmas.List.{length-append}
use Rattle.std.proofs.lemmas.List.Elements.{All-nil, All-cons, All-head, All-tail}
use Rattle.std.proofs.Math.ListN.{get_or-append}
use Rattle.std.proofs.Math.Seq.{get_or-append_seam}

-- ---- an element

-- there is one at each place below the length
pub some_at : {A : Type 0} (xs : List A) (k : ℕ) → k < length xs → (x : A) × (slice_get xs k ≡ Some x)
some_at [] k low = absurd (omega (arith, low))
some_at (x ∷ xs) zero low = (x, refl)
some_at (x ∷ xs) (suc k) low = some_at xs k (omega (arith, low))

-- what is there is one
pub one_some : {A : Type 0} {o : Option A} {x y : A} → o ≡ Some x → o ≡ Some y → x ≡ y
one_some p q = cc

-- lists of one length with the same elements are one
pub same_elements : {A : Type 0} (xs ys : List A) → length xs ≡ length ys → ((k : ℕ) (x y : A) → slice_get xs k ≡ Some x → slice_get ys k ≡ Some y → x ≡ y) → xs ≡ ys
same_elements [] [] long each = refl
same_elements [] (y ∷ ys) long each = absurd (omega (arith, long))
same_elements (x ∷ xs) [] long each = absurd (omega (arith, long))
same_elements (x ∷ xs) (y ∷ ys) long each =
    let rest : length xs ≡ length ys = omega (arith, long) in
    ap (λ z. z ∷ xs) (each 0 x y refl refl) ∙ ap (λ zs. y ∷ zs) (same_elements xs ys rest (λ k a b at there. each (suc k) a b at there))

pub map_get : {A B : Type 0} (f : A → B) (xs : List A) (k : ℕ) (x : A) → slice_get xs k ≡ Some x → slice_get (map f xs) k ≡ Some (f x)
map_get f [] k x at = absurd cc
map_get f (y ∷ ys) zero x at = (let same : y ≡ x = cc in ap (λ z. Some (f z)) same)
map_get f (y ∷ ys) (suc k) x at = map_get f ys k x at

-- ---- an element is changed

pub get_set : {A : Type 0} (xs : List A) (k : ℕ) (x y : A) → slice_get xs k ≡ Some y → slice_get (slice_set xs k x) k ≡ Some x
get_set [] k x y at = absurd cc
get_set (z ∷ zs) zero x y at = refl
get_set (z ∷ zs) (suc k) x y at = get_set zs k x y at

pub get_other : {A : Type 0} (xs : List A) (j k : ℕ) (x : A) → (j ≡ k → ⊥) → slice_get (slice_set xs j x) k ≡ slice_get xs k
get_other [] j k x differ = refl
get_other (z ∷ zs) zero zero x differ = absurd (differ refl)
get_other (z ∷ zs) zero (suc k) x differ = refl
get_other (z ∷ zs) (suc j) zero x differ = refl
get_other (z ∷ zs) (suc j) (suc k) x differ = get_other zs j k x (λ same. differ (ap suc same))

pub get_of_set : {A : Type 0} (xs : List A) (k : ℕ) (x : A) (j : ℕ) (y : A) → slice_get (slice_set xs k x) j ≡ Some y → (x ≡ y) ⊎ (slice_get xs j ≡ Some y)
get_of_set [] k x j y at = inr at
get_of_set (z ∷ zs) zero x zero y at = inl cc
get_of_set (z ∷ zs) zero x (suc j) y at = inr at
get_of_set (z ∷ zs) (suc k) x zero y at = inr at
get_of_set (z ∷ zs) (suc k) x (suc j) y at = get_of_set zs k x j y at

-- an element put in its own place changes nothing
pub set_same : {A : Type 0} (xs : List A) (k : ℕ) (x : A) → slice_get xs k ≡ Some x → slice_set xs k x ≡ xs
set_same [] k x at = refl
set_same (z ∷ zs) zero x at = let e : x ≡ z = cc in ap (λ (y : _). y ∷ zs) e
set_same (z ∷ zs) (suc k) x at = ap (λ (ys : List _). z ∷ ys) (set_same zs k x at)

-- ---- parts of a list

pub take_get : {A : Type 0} (n k : ℕ) (xs : List A) → k < n → slice_get (take n xs) k ≡ slice_get xs k
take_get zero k xs low = absurd (omega (arith, low))
take_get (suc n) k [] low = refl
take_get (suc n) zero (x ∷ xs) low = refl
take_get (suc n) (suc k) (x ∷ xs) low = take_get n k xs (omega (arith, low))

pub take_past : {A : Type 0} (n k : ℕ) (xs : List A) → n ≤ k → slice_get (take n xs) k ≡ None
take_past zero k [] past = refl
take_past zero k (x ∷ xs) past = refl
take_past (suc n) k [] past = refl
take_past (suc n) zero (x ∷ xs) past = absurd (omega (arith, past))
take_past (suc n) (suc k) (x ∷ xs) past = take_past n k xs (omega (arith, past))

pub drop_at : {A : Type 0} (xs : List A) (k : ℕ) (x : A) → slice_get xs k ≡ Some x → drop k xs ≡ x ∷ drop (k + 1) xs
drop_at [] k x at = absurd cc
drop_at (y ∷ ys) zero x at = let same : y ≡ x = cc in ap (λ (z : _). z ∷ ys) same
drop_at (y ∷ ys) (suc k) x at = drop_at ys k x at ∙ (let e : suc k + 1 ≡ suc (k + 1) = omega arith in ap (λ (z : _). x ∷ z) (sym (ap (λ (n : ℕ). drop n (y ∷ ys)) e)))

pub get_drop : {A : Type 0} (xs : List A) (n k : ℕ) → slice_get (drop n xs) k ≡ slice_get xs (n + k)
get_drop xs zero k = let e : k ≡ 0 + k = omega arith in ap (λ (j : ℕ). slice_get xs j) e
get_drop [] (suc n) k = refl
get_drop (x ∷ xs) (suc n) k = get_drop xs n k ∙ (let e : suc (n + k) ≡ suc n + k = omega arith in ap (λ (j : ℕ). slice_get (x ∷ xs) j) e)

pub append_front : {A : Type 0} (xs ys : List A) (k : ℕ) → k < length xs → slice_get (xs ++ ys) k ≡ slice_get xs k
append_front [] ys k low = absurd (omega (arith, low))
append_front (x ∷ xs) ys zero low = refl
append_front (x ∷ xs) ys (suc k) low = append_front xs ys k (omega (arith, low))

pub append_back : {A : Type 0} (xs ys : List A) (k j : ℕ) → k ≡ length xs + j → slice_get (xs ++ ys) k ≡ slice_get ys j
append_back [] ys k j is = let e : k ≡ j = omega (arith, is) in ap (λ n. slice_get ys n) e
append_back (x ∷ xs) ys zero j is = absurd (omega (arith, is))
append_back (x ∷ xs) ys (suc k) j is = append_back xs ys k j (omega (arith, is))

pub one_longer : {A : Type 0} (xs ys : List A) (x : A) (k : ℕ) → length xs ≡ k → ys ≡ xs ++ x ∷ [] → length ys ≡ k + 1
one_longer xs ys x k long new = ap (λ zs. length zs) new ∙ length-append xs (x ∷ []) ∙ ap (λ n. n + 1) long

-- one more of a list, each of which is what its place asks
pub one_more : {A : Type 0} (P : ℕ → A → Type 0) (xs ys : List A) (x d : A) (k : ℕ) → length xs ≡ k → ys ≡ xs ++ x ∷ [] → ((p : ℕ) → p < k → P p (get_or xs p d)) → P k x → (p : ℕ) → p < k + 1 → P p (get_or ys p d)
one_more P xs ys x d k long new each last p below = elim (cases_lt p k) [
  | inl lt ↦ subst (P p) (sym (ap (λ zs. get_or zs p d) new ∙ get_or-append xs (x ∷ []) d p (omega (arith, lt, long)))) (each p lt)
  | inr ge ↦
      let at : p ≡ length xs = omega (arith, ge, below, long) in
      let is : get_or ys p d ≡ x = ap (λ zs. get_or zs p d) new ∙ ap (λ i. get_or (xs ++ x ∷ []) i d) at ∙ get_or-append_seam xs x [] d in
      subst (P p) (sym is) (subst (λ i. P i x) (omega (arith, ge, below)) last)
]

-- ---- what holds of each element

pub one_of : {A : Type 0} (P : A → Type 0) (xs : List A) (k : ℕ) (x : A) → All P xs → slice_get xs k ≡ Some x → P x
one_of P [] k x all at = absurd cc
one_of P (y ∷ xs) zero x all at = let same : y ≡ x = cc in subst P same (All-head P y xs all)
one_of P (y ∷ xs) (suc k) x all at = one_of P xs k x (All-tail P y xs all) at

pub all_of : {A : Type 0} (P : A → Type 0) (xs : List A) → ((k : ℕ) (x : A) → slice_get xs k ≡ Some x → P x) → All P xs
all_of P [] each = All-nil P
all_of P (x ∷ xs) each = All-cons P x xs (each 0 x refl) (all_of P xs (λ k y at. each (suc k) y at))

pub unmapped : {A B : Type 0} (P : B → Type 0) (to : A → B) (xs : List A) → All P (map to xs) → All (λ (x : A). P (to x)) xs
unmapped P to [] all = All-nil (λ x. P (to x))
unmapped P to (x ∷ xs) all = All-cons (λ y. P (to y)) x xs (All-head P (to x) (map to xs) all) (unmapped P to xs (All-tail P (to x) (map to xs) all))

pub all_front : {A : Type 0} (P : A → Type 0) (xs ys : List A) → All P (xs ++ ys) → All P xs
all_front P [] ys all = All-nil P
all_front P (x ∷ xs) ys all = All-cons P x xs (All-head P x (xs ++ ys) all) (all_front P xs ys (All-tail P x (xs ++ ys) all))

pub all_back : {A : Type 0} (P : A → Type 0) (xs ys : List A) → All P (xs ++ ys) → All P ys
all_back P [] ys all = all
all_back P (x ∷ xs) ys all = all_back P xs ys (All-tail P x (xs ++ ys) all)
