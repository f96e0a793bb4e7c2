-- Lists side by side, and lists of things that are in their ranges.
use Rattle.std.proofs.Common.{◌≡◌, ◌<◌, ◌+◌, ◌||◌, ◌==◌, ◌++◌, ◌∙◌, ◌⊎◌, inl, inr, ℕ, zero, suc, Bool, true, false, List, [], ◌∷◌, length, map, Some, arith, refl, ap, sym, subst}
use Rattle.std.specs.Prelude.{All, if◌then◌else◌, nat_eq, slice_get}
use Rattle.std.specs.List.{list_any, zip}
use Rattle.std.proofs.lemmas.Bool.{eq-eqb, ne_eqb}
use Rattle.std.proofs.lemmas.List.Elements.{All-head, All-tail}
use Rattle.machine_semantics.specs.Image.{Process}
use Rattle.image_format.specs.Format.{Format, each_is}
use Rattle.image_format.proofs.Booleans.{together}
use Rattle.image_reader.specs.File as f
use Rattle.wellformed_law.proofs.Members.{In}

-- ---- any lists

pub all_in : {X : Type 0} (P : X → Type 0) (xs : List X) (x : X) → All P xs → In xs x → P x
all_in P [] x h i = absurd i
all_in P (y ∷ ys) x h (inl e) = subst P e (All-head P y ys h)
all_in P (y ∷ ys) x h (inr i) = all_in P ys x (All-tail P y ys h) i

pub same_map : {X : Type 0} (f : X → X) → ((x : X) → f x ≡ x) → (xs : List X) → map f xs ≡ xs
same_map f same [] = refl
same_map f same (x ∷ xs) = rw (same x, same_map f same xs) refl

pub back_map : {X Y : Type 0} (f : Y → X) (h : X → Y) → ((x : X) → f (h x) ≡ x) → (xs : List X) → map f (map h xs) ≡ xs
back_map f h same [] = refl
back_map f h same (x ∷ xs) = rw (same x, back_map f h same xs) refl

pub each_alike : {X : Type 0} (one : Format X) (earlier xs : List X) → ((k : ℕ) (x : X) → slice_get xs k ≡ Some x → one.is x ≡ true) → each_is (λ before. one) earlier (length xs) xs ≡ true
each_alike one earlier [] h = refl
each_alike one earlier (x ∷ xs) h = together (one.is x) (each_is (λ before. one) (earlier ++ x ∷ []) (length xs) xs) (h 0 x refl) (each_alike one (earlier ++ x ∷ []) xs (λ k y at. h (suc k) y at))

-- ---- side by side

pub zip_long : {X Y : Type 0} (xs : List X) (ys : List Y) → length xs ≡ length ys → length (zip xs ys) ≡ length ys
zip_long [] [] same = refl
zip_long [] (y ∷ ys) same = absurd (omega (arith, same))
zip_long (x ∷ xs) [] same = absurd (omega (arith, same))
zip_long (x ∷ xs) (y ∷ ys) same = let rest = zip_long xs ys (omega (arith, same)) in omega (arith, rest)

pub zip_second : {X Y : Type 0} (xs : List X) (ys : List Y) (k : ℕ) (z : X × Y) → slice_get (zip xs ys) k ≡ Some z → slice_get ys k ≡ Some z.1
zip_second [] ys k z at = absurd cc
zip_second (x ∷ xs) [] k z at = absurd cc
zip_second (x ∷ xs) (y ∷ ys) zero z at = let same : (x, y) ≡ z = cc in ap (λ (w : _). Some w.1) same
zip_second (x ∷ xs) (y ∷ ys) (suc k) z at = zip_second xs ys k z at

pub zip_there : {X Y : Type 0} (xs : List X) (ys : List Y) (k : ℕ) (y : Y) → length xs ≡ length ys → slice_get ys k ≡ Some y → (x : X) × (slice_get (zip xs ys) k ≡ Some (x, y))
zip_there xs [] k y same at = absurd cc
zip_there [] (z ∷ ys) k y same at = absurd (omega (arith, same))
zip_there (x ∷ xs) (z ∷ ys) zero y same at = (x, let e : z ≡ y = cc in ap (λ (w : _). Some (x, w)) e)
zip_there (x ∷ xs) (z ∷ ys) (suc k) y same at = zip_there xs ys k y (omega (arith, same)) at

pub front_get : {X : Type 0} (xs ys : List X) (k : ℕ) (x : X) → slice_get xs k ≡ Some x → slice_get (xs ++ ys) k ≡ Some x
front_get [] ys k x at = absurd cc
front_get (z ∷ xs) ys zero x at = at
front_get (z ∷ xs) ys (suc k) x at = front_get xs ys k x at

pub middle_get : {X : Type 0} (xs : List X) (x : X) (ys : List X) → slice_get (xs ++ x ∷ ys) (length xs) ≡ Some x
middle_get [] x ys = refl
middle_get (z ∷ xs) x ys = middle_get xs x ys

-- ---- the events that processes have

pub none_used : (ev : ℕ) (xs : List (List ℕ × Process)) → ((j : ℕ) (y : List ℕ × Process) → slice_get xs j ≡ Some y → (y.1.kind ≡ 0) ⊎ (y.1.event ≡ ev → ⊥)) → list_any (λ e. nat_eq e ev) (f.used_by xs) ≡ false
none_used ev [] h = refl
none_used ev (y ∷ ys) h = by (y.1.kind == 0) refl (none_used ev ys (λ j z at. h (suc j) z at)) where
  by : (b : Bool) → (y.1.kind == 0) ≡ b → list_any (λ e. nat_eq e ev) (f.used_by ys) ≡ false → list_any (λ e. nat_eq e ev) ((if b then [] else y.1.event ∷ []) ++ f.used_by ys) ≡ false
  by true none rest = rest
  by false some rest = elim (h 0 y refl) [
    | inl none ↦ (let clash : true ≡ false = sym (eq-eqb y.1.kind 0 none) ∙ some in cc)
    | inr other ↦ rw (ne_eqb y.1.event ev other, rest) refl
  ]

pub one_used : (ev : ℕ) (xs : List (List ℕ × Process)) (k : ℕ) (y : List ℕ × Process) → slice_get xs k ≡ Some y → y.1.kind ≡ 1 → y.1.event ≡ ev → list_any (λ e. nat_eq e ev) (f.used_by xs) ≡ true
one_used ev [] k y at kind is = absurd cc
one_used ev (x ∷ xs) zero y at kind is =
    let same : x ≡ y = cc in
    let own : x.1.kind ≡ 1 = ap (λ (z : List ℕ × Process). z.1.kind) same ∙ kind in
    let here : x.1.event ≡ ev = ap (λ (z : List ℕ × Process). z.1.event) same ∙ is in
    by (x.1.kind == 0) (ap (λ (n : ℕ). n == 0) own) (eq-eqb x.1.event ev here)
  where
    by : (b : Bool) → b ≡ false → nat_eq x.1.event ev ≡ true → list_any (λ e. nat_eq e ev) ((if b then [] else x.1.event ∷ []) ++ f.used_by xs) ≡ true
    by true some hit = absurd cc
    by false some hit = rw hit refl
one_used ev (x ∷ xs) (suc k) y at kind is = by (x.1.kind == 0) (one_used ev xs k y at kind is) where
  by : (b : Bool) → list_any (λ e. nat_eq e ev) (f.used_by xs) ≡ true → list_any (λ e. nat_eq e ev) ((if b then [] else x.1.event ∷ []) ++ f.used_by xs) ≡ true
  by true rest = rest
  by false rest = either (nat_eq x.1.event ev) rest where
    either : (c : Bool) → list_any (λ e. nat_eq e ev) (f.used_by xs) ≡ true → (c || list_any (λ e. nat_eq e ev) (f.used_by xs)) ≡ true
    either true more = refl
    either false more = more

pub all_used : (used : List ℕ) (at count : ℕ) → ((i : ℕ) → i < count → list_any (λ e. nat_eq e (at + i)) used ≡ true) → f.all_used used at count ≡ true
all_used used at zero h = refl
all_used used at (suc n) h =
    let here : list_any (λ e. nat_eq e at) used ≡ true = ap (λ (k : ℕ). list_any (λ e. nat_eq e k) used) (let e : at ≡ at + 0 = omega arith in e) ∙ h 0 (omega arith) in
    together (list_any (λ e. nat_eq e at) used) (f.all_used used (at + 1) n) here
    (all_used used (at + 1) n (λ i low. ap (λ (k : ℕ). list_any (λ e. nat_eq e k) used) (let e : at + 1 + i ≡ at + suc i = omega arith in e) ∙ h (suc i) (omega (arith, low))))
