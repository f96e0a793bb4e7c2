-- Ticks before which no wait is over.
use Rattle.std.specs.Prelude.{◌≡◌, ◌≢◌, ◌≤◌, ◌<◌, ◌+◌, ℕ, zero, suc, Bool, true, false, cond, ◌&&◌, List, [], ◌∷◌, Option, Some, None, map, nat_le, slice_get}
use Rattle.std.proofs.Common.{refl, sym, ◌∙◌, ap, subst, arith, inl, inr, drop}
use Rattle.std.proofs.lemmas.Bool.{cases_lt}
use Rattle.std.proofs.lemmas.Bool.Decides.{nat_tests}
use Rattle.source_semantics.specs.Config.{Config, Doing, Job, idle, active, waiting}
use Rattle.replay_due_events.specs.NextDue.{doing_due, is_after, sooner}
use Rattle.replay_due_events.specs.Next.{AreOthersAfter, AreWaitsAfter, IsQuiet, jobs_due}
use Rattle.replay_due_events.specs.Timings.{IsClockFree}
use Rattle.replay_due_events.specs.declared.timetable.Timing.{Timing}
use Rattle.replay_due_events.proofs.ClockFree.{free_within}
use Rattle.replay_due_events.proofs.Nexting.{after_sooner}

-- nothing is before tick 0
pub least_of_all : (o : Option ℕ) → is_after 0 o ≡ true
least_of_all None = refl
least_of_all (Some n) = grind (arith, nat_tests)

-- before an earlier tick there is nothing either
pub after_less : (s t : ℕ) (o : Option ℕ) → s ≤ t → is_after t o ≡ true → is_after s o ≡ true
after_less s t None low h = refl
after_less s t (Some n) low h = let at : t ≤ n = grind (arith, nat_tests) in let most : s ≤ n = omega (arith, at, low) in grind (arith, nat_tests)

pub less_waits : (s t : ℕ) (js : List Job) → s ≤ t → AreWaitsAfter t js → AreWaitsAfter s js
less_waits s t js low after = λ k j at. after_less s t (doing_due 0 j.doing) low (after k j at)

-- the time-out of a wait
pub over_at : (from u n : ℕ) → u ≤ n → is_after u (cond (nat_le from n) (Some n) None) ≡ true
over_at from u n low = by_case (nat_le from n)
  where
    by_case : (b : Bool) → is_after u (cond b (Some n) None) ≡ true
    by_case true = grind (arith, nat_tests)
    by_case false = refl

-- a later first tick leaves out more
cond_after : (t n : ℕ) (b : Bool) → is_after t (Some n) ≡ true → is_after t (cond b (Some n) None) ≡ true
cond_after t n true h = h
cond_after t n false h = refl

from_later : (from t : ℕ) (d : Doing) → is_after t (doing_due 0 d) ≡ true → is_after t (doing_due from d) ≡ true
from_later from t idle h = refl
from_later from t (active r) h = refl
from_later from t (waiting r x since limit number) h =
    let n : ℕ = since + limit + 1 in
    let some : nat_le 0 n ≡ true = grind (arith, nat_tests) in
    cond_after t n (nat_le from n) (sym (ap (λ (b : Bool). is_after t (cond b (Some n) None)) some) ∙ h)

-- so none of the waits is over
pub waits_rest : (from t : ℕ) (js : List Job) → AreWaitsAfter t js → is_after t (jobs_due from js) ≡ true
waits_rest from t [] after = refl
waits_rest from t (j ∷ js) after =
    let here : is_after t (doing_due from j.doing) ≡ true = from_later from t j.doing (after 0 j refl) in
    let rest : is_after t (jobs_due from js) ≡ true = waits_rest from t js (λ k i at. after (suc k) i at) in
    after_sooner t (doing_due from j.doing) (jobs_due from js) ∙ (ap (λ (b : Bool). b && is_after t (jobs_due from js)) here ∙ rest)

-- one more
pub waits_more : (t : ℕ) (j : Job) (js : List Job) → is_after t (doing_due 0 j.doing) ≡ true → AreWaitsAfter t js → AreWaitsAfter t (j ∷ js)
waits_more t j js one after zero i at = let same : j ≡ i = cc in subst (λ (x : Job). is_after t (doing_due 0 x.doing) ≡ true) same one
waits_more t j js one after (suc k) i at = after k i at

-- the wait of one process besides those of the others
pub with_one : (i t a b : ℕ) (js : List Job) → t ≤ a → t ≤ b → AreOthersAfter i a js → ((j : Job) → slice_get js i ≡ Some j → is_after b (doing_due 0 j.doing) ≡ true) → AreWaitsAfter t js
with_one i t a b js low_a low_b others one = λ k j at. elim (cases_lt k i) [
  | inl lt ↦ after_less t a (doing_due 0 j.doing) low_a (others k j (λ e. absurd (omega (arith, lt, e))) at)
  | inr ge ↦ elim (cases_lt i k) [
    | inl lt ↦ after_less t a (doing_due 0 j.doing) low_a (others k j (λ e. absurd (omega (arith, lt, e))) at)
    | inr le ↦ let same : k ≡ i = omega (arith, ge, le) in after_less t b (doing_due 0 j.doing) low_b (one j (subst (λ (n : ℕ). slice_get js n ≡ Some j) same at))
  ]
]

pub quiet : (ts : List Timing) (c : Config) (least a b : ℕ) → least ≤ a → least ≤ b → IsClockFree ts (c.tick + 1) a → AreWaitsAfter b c.jobs → IsQuiet ts c least
quiet ts c least a b low_a low_b clock waits = record {
  clock = free_within ts (c.tick + 1) a (c.tick + 1) least (omega arith) low_a clock;
  waits = less_waits least b c.jobs low_b waits;
}

pub quiet_with : (ts : List Timing) (c : Config) (i least a b : ℕ) → least ≤ a → least ≤ b → IsClockFree ts (c.tick + 1) a → AreOthersAfter i a c.jobs
    → ((j : Job) → slice_get c.jobs i ≡ Some j → is_after b (doing_due 0 j.doing) ≡ true) → IsQuiet ts c least
quiet_with ts c i least a b low_a low_b clock others one = record {
  clock = free_within ts (c.tick + 1) a (c.tick + 1) least (omega arith) low_a clock;
  waits = with_one i least a b c.jobs low_a low_b others one;
}
