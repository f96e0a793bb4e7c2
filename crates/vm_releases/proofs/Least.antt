-- The least of the slots.
use Rattle.std.proofs.Common.{◌≡◌, ◌≢◌, ◌≤◌, ◌+◌, ◌⊎◌, inl, inr, ℕ, zero, suc, List, [], ◌∷◌, Option, Some, None, arith, refl, ap, ◌∙◌}
use Rattle.std.specs.Prelude.{slice_get, min}
use Rattle.std.proofs.lemmas.Bool.{cases_lt}
use Rattle.vm_stretch.specs.Due.{earlier, least}
use Rattle.vm_stretch.specs.StretchDue.{NoneBefore}

first_most : (r : ℕ) (o : Option ℕ) → (d : ℕ) × ((earlier (Some r) o ≡ Some d) × (d ≤ r))
first_most r None = (r, (refl, omega arith))
first_most r (Some s) = (min r s, (refl, omega arith))

rest_most : (t : Option ℕ) (d : ℕ) → (e : ℕ) × ((earlier t (Some d) ≡ Some e) × (e ≤ d))
rest_most None d = (d, (refl, omega arith))
rest_most (Some s) d = (min s d, (refl, omega arith))

pub at_least : (slots : List (Option ℕ)) (i r : ℕ) → slice_get slots i ≡ Some (Some r) → (d : ℕ) × ((least slots ≡ Some d) × (d ≤ r))
at_least [] i r at = absurd cc
at_least (t ∷ ts) zero r at =
    let same : t ≡ Some r = cc in
    let f = first_most r (least ts) in
    (f.0, (ap (λ (x : Option ℕ). earlier x (least ts)) same ∙ f.1.0, f.1.1))
at_least (t ∷ ts) (suc i) r at =
    let d = at_least ts i r at in
    let e = rest_most t d.0 in
    let le : e.0 ≤ d.0 = e.1.1 in
    let most : d.0 ≤ r = d.1.1 in
    (e.0, (ap (λ (x : Option ℕ). earlier t x) d.1.0 ∙ e.1.0, omega (arith, le, most)))

one_of : (t o : Option ℕ) (d : ℕ) → earlier t o ≡ Some d → (t ≡ Some d) ⊎ (o ≡ Some d)
one_of None o d is = inr is
one_of (Some s) None d is = inl is
one_of (Some s) (Some u) d is =
    let e : min s u ≡ d = cc in
    elim (cases_lt s u) [
      | inl low ↦ inl (let same : s ≡ d = omega (arith, e, low) in ap (λ (x : ℕ). Some x) same)
      | inr high ↦ inr (let same : u ≡ d = omega (arith, e, high) in ap (λ (x : ℕ). Some x) same)
    ]

pub least_there : (slots : List (Option ℕ)) (d : ℕ) → least slots ≡ Some d → (i : ℕ) × (slice_get slots i ≡ Some (Some d))
least_there [] d is = absurd cc
least_there (t ∷ ts) d is =
    elim (one_of t (least ts) d is) [
      | inl here ↦ (0, ap (λ (x : Option ℕ). Some x) here)
      | inr later ↦ (let rest = least_there ts d later in (suc rest.0, rest.1))
    ]

-- where nothing was due before a tick, and the least is not due at it, nothing is due up to it
pub none_up_to : (slots : List (Option ℕ)) (t : ℕ) → NoneBefore t slots → least slots ≢ Some t → NoneBefore (t + 1) slots
none_up_to slots t none differ i r at =
    let d = at_least slots i r at in
    let there = least_there slots d.0 d.1.0 in
    let low : t ≤ d.0 = none there.0 d.0 there.1 in
    let most : d.0 ≤ r = d.1.1 in
    elim (cases_lt t r) [
      | inl later ↦ omega (arith, later)
      | inr here ↦ absurd (differ (d.1.0 ∙ (let same : d.0 ≡ t = omega (arith, low, most, here) in ap (λ (x : ℕ). Some x) same)))
    ]
