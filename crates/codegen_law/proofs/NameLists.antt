-- Where texts stand in a list.
use Rattle.std.specs.Prelude.{◌≡◌, ◌+◌, ◌<◌, ◌≤◌, ◌⊎◌, ◌||◌, ℕ, zero, suc, Bool, true, false, cond, List, [], ◌∷◌, ◌++◌, Some, slice_get, length, count_by, Contains}
use Rattle.std.proofs.Common.{inl, inr, refl, sym, ◌∙◌, ap, arith}
use Rattle.std.proofs.lemmas.List.Sums.{sum_by-cons}
use Rattle.std.proofs.lemmas.Option.{none-some, same_Some}
use Rattle.std.proofs.lemmas.Bool.{false≢true, or_cases}
use Rattle.base.proofs.Members.{none_in, front_or_behind}
use Rattle.code_spec.specs.Numbering.{Text, same_text, is_among, place_among}
use Rattle.codegen_law.proofs.NameNumbers.{text_is}

-- ---- the one of a list that has the key

-- who is there stands at an index
pub among_at : (us : List Text) (k : ℕ) (t : Text) → slice_get us k ≡ Some t → is_among t us ≡ true
among_at [] k t e = absurd (none-some t e)
among_at (u ∷ us) zero t e = ap (λ y. same_text y t || is_among t us) (same_Some u t e) ∙ ap (λ b. b || is_among t us) (text_is t)
among_at (u ∷ us) (suc k) t e = by (same_text u t) (among_at us k t e)
  where
    by : (b : Bool) → is_among t us ≡ true → b || is_among t us ≡ true
    by true h = refl
    by false h = h

-- a place among the first is one among all
pub place_front : (t : Text) (us vs : List Text) → is_among t us ≡ true → place_among t (us ++ vs) ≡ place_among t us
place_front t [] vs h = absurd (false≢true h)
place_front t (u ∷ us) vs h = by (same_text u t) h (λ k. place_front t us vs k)
  where
    by : (b : Bool) → b || is_among t us ≡ true → (is_among t us ≡ true → place_among t (us ++ vs) ≡ place_among t us) → cond b 0 (suc (place_among t (us ++ vs))) ≡ cond b 0 (suc (place_among t us))
    by true h k = refl
    by false h k = ap (λ n. suc n) (k h)

pub place_below : (t : Text) (us : List Text) → is_among t us ≡ true → place_among t us < length us
place_below t [] h = absurd (false≢true h)
place_below t (u ∷ us) h = by (same_text u t) h (λ k. place_below t us k)
  where
    by : (b : Bool) → b || is_among t us ≡ true → (is_among t us ≡ true → place_among t us < length us) → cond b 0 (suc (place_among t us)) < suc (length us)
    by true h k = omega arith
    by false h k = let l = k h in omega arith

-- who is not among the first stands behind them
pub place_last : (t : Text) (us : List Text) → is_among t us ≡ false → place_among t (us ++ t ∷ []) ≡ length us
place_last t [] h = ap (λ b. cond b 0 1) (text_is t)
place_last t (u ∷ us) h = by (same_text u t) h (λ k. place_last t us k)
  where
    by : (b : Bool) → b || is_among t us ≡ false → (is_among t us ≡ false → place_among t (us ++ t ∷ []) ≡ length us) → cond b 0 (suc (place_among t (us ++ t ∷ []))) ≡ suc (length us)
    by true h k = absurd (false≢true (sym h))
    by false h k = ap (λ n. suc n) (k h)

-- one more at the end
pub snoc_cases : (us : List Text) (t v : Text) (k : ℕ) → slice_get (us ++ t ∷ []) k ≡ Some v → (slice_get us k ≡ Some v) ⊎ ((k ≡ length us) × (t ≡ v))
snoc_cases [] t v zero e = inr (refl, same_Some t v e)
snoc_cases [] t v (suc k) e = absurd (none-some v e)
snoc_cases (u ∷ us) t v zero e = inl e
snoc_cases (u ∷ us) t v (suc k) e = by (snoc_cases us t v k e)
  where
    by : (slice_get us k ≡ Some v) ⊎ ((k ≡ length us) × (t ≡ v)) → (slice_get us k ≡ Some v) ⊎ ((suc k ≡ suc (length us)) × (t ≡ v))
    by (inl h) = inl h
    by (inr h) = inr (ap (λ n. suc n) h.0, h.1)

pub among_snoc : (us : List Text) (t u : Text) → is_among u (us ++ t ∷ []) ≡ true → (is_among u us ≡ true) ⊎ (same_text t u ≡ true)
among_snoc [] t u h = by (or_cases (same_text t u) false h)
  where
    by : (same_text t u ≡ true) ⊎ (false ≡ true) → (false ≡ true) ⊎ (same_text t u ≡ true)
    by (inl e) = inr e
    by (inr e) = inl e
among_snoc (v ∷ us) t u h = by (same_text v u) h (λ k. among_snoc us t u k)
  where
    by : (b : Bool) → b || is_among u (us ++ t ∷ []) ≡ true → (is_among u (us ++ t ∷ []) ≡ true → (is_among u us ≡ true) ⊎ (same_text t u ≡ true)) → (b || is_among u us ≡ true) ⊎ (same_text t u ≡ true)
    by true h k = inl refl
    by false h k = k h

-- ---- how many of a list are among others

worth_le : (b c : Bool) → (b ≡ true → c ≡ true) → cond b 1 0 ≤ cond c 1 0
worth_le false c h = omega arith
worth_le true false h = absurd (false≢true (h refl))
worth_le true true h = omega arith

worth_lt : (b c : Bool) → b ≡ false → c ≡ true → cond b 1 0 < cond c 1 0
worth_lt false true h k = omega arith
worth_lt false false h k = absurd (false≢true k)
worth_lt true c h k = absurd (false≢true (sym h))

module _ {X : Type 0} (p q : X → Bool) (more : (x : X) → p x ≡ true → q x ≡ true) where
  pub count_le : (xs : List X) → count_by p xs ≤ count_by q xs
  count_le [] = omega arith
  count_le (x ∷ xs) =
      let a = sum_by-cons (λ (y : X). cond (p y) 1 0) x xs in
      let b = sum_by-cons (λ (y : X). cond (q y) 1 0) x xs in
      let c = worth_le (p x) (q x) (more x) in
      let rest = count_le xs in
      omega arith

  -- one test passes one more
  pub count_lt : (xs : List X) (x : X) → Contains xs x → p x ≡ false → q x ≡ true → count_by p xs < count_by q xs
  count_lt [] x h fails passes = absurd (none_in x h)
  count_lt (y ∷ ys) x h fails passes = by (front_or_behind y ys x h) (λ there. count_lt ys x there fails passes)
    where
      by : (y ≡ x) ⊎ Contains ys x → (Contains ys x → count_by p ys < count_by q ys) → count_by p (y ∷ ys) < count_by q (y ∷ ys)
      by (inl same) rest =
          let a = sum_by-cons (λ (z : X). cond (p z) 1 0) y ys in
          let b = sum_by-cons (λ (z : X). cond (q z) 1 0) y ys in
          let c = worth_lt (p y) (q y) (ap p same ∙ fails) (ap q same ∙ passes) in
          let le = count_le ys in
          omega arith
      by (inr there) rest =
          let a = sum_by-cons (λ (z : X). cond (p z) 1 0) y ys in
          let b = sum_by-cons (λ (z : X). cond (q z) 1 0) y ys in
          let c = worth_le (p y) (q y) (more y) in
          let lt = rest there in
          omega arith
