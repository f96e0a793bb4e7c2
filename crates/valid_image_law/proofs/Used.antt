-- The uses of the example.
use Rattle.std.proofs.Common.{◌≡◌, ◌≤◌, ◌<◌, ℕ, zero, suc, length, Option, Some, None, arith, refl, ap, sym, ◌∙◌}
use Rattle.std.specs.Prelude.{cond, false, nat_eq}
use Rattle.std.proofs.lemmas.Bool.Decides.{nat_tests}
use Rattle.sched_response.specs.Ranked as defined
use Rattle.machine_safety.specs.ValidImages.{meeting}
use Rattle.valid_image.specs.Tables.{longer_stay, stay_of_process}
use Rattle.valid_image.specs.Times.{deadline_at}
use Rattle.valid_image_law.specs.Uses.{IsStay, TellsStays, meeting_uses, MeetingIsUsed}

-- the one stay of a use is in monitor 0
only : (k : ℕ) → length (defined.use_at meeting_uses k).stays ≡ 1 → (defined.stay_at (defined.use_at meeting_uses k).stays 0).mon ≡ 0 → (m ticks : ℕ) → IsStay (defined.use_at meeting_uses k) m ticks → (m ≡ 0) × (ticks ≡ (defined.stay_at (defined.use_at meeting_uses k).stays 0).ticks)
only k one mon m ticks s =
    let first : s.index ≡ 0 = omega (arith, s.within, one) in
    let at : defined.stay_at (defined.use_at meeting_uses k).stays s.index ≡ defined.stay_at (defined.use_at meeting_uses k).stays 0 = ap (λ i. defined.stay_at (defined.use_at meeting_uses k).stays i) first in
    (sym s.monitor ∙ (ap (λ i. (defined.stay_at (defined.use_at meeting_uses k).stays i).mon) first ∙ mon), sym s.takes ∙ ap (λ i. (defined.stay_at (defined.use_at meeting_uses k).stays i).ticks) first)

-- a use of one stay in monitor 0
told : (k ticks : ℕ) (stay : ℕ → Option ℕ) → stay 0 ≡ Some ticks → ((m : ℕ) → stay (suc m) ≡ None) → length (defined.use_at meeting_uses k).stays ≡ 1 → (defined.stay_at (defined.use_at meeting_uses k).stays 0).mon ≡ 0
    → (defined.stay_at (defined.use_at meeting_uses k).stays 0).ticks ≡ ticks → TellsStays (defined.use_at meeting_uses k) stay
told k ticks stay there nowhere one mon takes = record { longest = longest; no_longer = no_longer; entered = entered } where
  same : (n : ℕ) → stay 0 ≡ Some n → ticks ≡ n
  same n is = let e : Some ticks ≡ Some n = sym there ∙ is in cc

  longest : (m n : ℕ) → stay m ≡ Some n → IsStay (defined.use_at meeting_uses k) m n
  longest zero n is = record { index = 0; within = omega (arith, one); monitor = mon; takes = takes ∙ same n is }
  longest (suc m) n is = absurd (let e : None ≡ Some n = sym (nowhere m) ∙ is in cc)

  no_longer : (m n t : ℕ) → stay m ≡ Some n → IsStay (defined.use_at meeting_uses k) m t → t ≤ n
  no_longer zero n t is s = let o = only k one mon zero t s in omega (arith, o.1, takes, same n is)
  no_longer (suc m) n t is s = absurd (let e : None ≡ Some n = sym (nowhere m) ∙ is in cc)

  entered : (m t : ℕ) → stay m ≡ None → IsStay (defined.use_at meeting_uses k) m t → ⊥
  entered zero t is s = let e : None ≡ Some ticks = sym is ∙ there in absurd cc
  entered (suc m) t is s = let o = only k one mon (suc m) t s in absurd (omega (arith, o.0))

-- no other monitor is entered
elsewhere : (ticks m : ℕ) → longer_stay (longer_stay (cond (nat_eq 0 (suc m)) (Some ticks) None) None) None ≡ None
elsewhere ticks m = ap (λ b. longer_stay (longer_stay (cond b (Some ticks) None) None) None) (differ m) where
  differ : (m : ℕ) → nat_eq 0 (suc m) ≡ false
  differ m = grind (arith, nat_tests)

first_tells : TellsStays (defined.use_at meeting_uses 0) (stay_of_process meeting 0)
first_tells = told 0 13 (stay_of_process meeting 0) refl (λ m. elsewhere 13 m) refl refl refl

second_tells : TellsStays (defined.use_at meeting_uses 1) (stay_of_process meeting 1)
second_tells = told 1 8 (stay_of_process meeting 1) refl (λ m. elsewhere 8 m) refl refl refl

pub meeting_is_used : MeetingIsUsed
meeting_is_used = record { many = refl; few = omega arith; deadlines = deadlines; stays = stays; within = within } where
  deadlines : (k : ℕ) → k < 2 → (defined.use_at meeting_uses k).deadline ≡ deadline_at meeting k
  deadlines zero low = refl
  deadlines (suc zero) low = refl
  deadlines (suc (suc k)) low = absurd (omega (arith, low))

  stays : (k : ℕ) → k < 2 → TellsStays (defined.use_at meeting_uses k) (stay_of_process meeting k)
  stays zero low = first_tells
  stays (suc zero) low = second_tells
  stays (suc (suc k)) low = absurd (omega (arith, low))

  within : (k m ticks : ℕ) → k < 2 → IsStay (defined.use_at meeting_uses k) m ticks → m < 1
  within zero m ticks low s = let o = only 0 refl refl m ticks s in omega (arith, o.0)
  within (suc zero) m ticks low s = let o = only 1 refl refl m ticks s in omega (arith, o.0)
  within (suc (suc k)) m ticks low s = absurd (omega (arith, low))
