-- What the answers of the search for a failing level say, and what a bisection finds.
use Rattle.std.proofs.Common.{◌≡◌, ◌≤◌, ◌<◌, ◌+◌, inl, inr, ℕ, List, length, Bool, true, false, Option, Some, None, IfSome, IfNone, IsTrue, ◌↔◌, arith, refl}
use Rattle.std.specs.Prelude.{is_some, not}
use Rattle.std.proofs.lemmas.Bool.{cases_lt}
use Rattle.sched_response.specs.declared.tasks.Task.{Task}
use Rattle.sched_response.specs.Demand.{deadline_at}
use Rattle.sched_sensitivity.specs.Slack.{IsFirstFailing, IsTimely}
use Rattle.sched_sensitivity.proofs.More.{not_timely}
use Rattle.sched_sensitivity.specs.declared.fitting.Varied.{Varied}
use Rattle.sched_sensitivity.specs.Fit.{with_number, IsGreatestFit}
use Rattle.sched_sensitivity.proofs.Changed.{falls, within_deadline}

pub judged : (ts : List Task) (found : Option ℕ) (b : Bool) → is_some found ≡ not b → IfNone found (IsTimely ts) → IfSome found (IsFirstFailing ts) → IsTrue b ↔ IsTimely ts
judged ts None true is none some = (λ yes. none, λ timely. refl)
judged ts None false is none some = absurd (cc)
judged ts (Some level) true is none some = absurd (cc)
judged ts (Some level) false is none some = (λ yes. absurd (cc), λ timely. absurd (not_timely ts level some timely))

-- one more than the deadline does not fit
pub past_deadline : (number : Varied) (ts : List Task) (level x : ℕ) → level < length ts → deadline_at ts level ≤ 1000000000 → x ≡ deadline_at ts level + 1 → ¬ IsTimely (with_number number ts level x)
past_deadline number ts level x below low is = λ timely. let within = within_deadline number ts level x below low timely in omega (arith, within, is)

-- the last number before one that does not fit
pub greatest : (number : Varied) (ts : List Task) (level x high : ℕ) → level < length ts → high ≡ x + 1 → IsTimely (with_number number ts level x) → ¬ IsTimely (with_number number ts level high) → IsGreatestFit number ts level x
greatest number ts level x high below next fits fails = record {
  fits = fits;
  greatest = λ y timely. elim (cases_lt x y) [
    | inl more ↦ absurd (fails (falls number ts level high y below (omega (arith, more, next)) timely))
    | inr le ↦ le
  ];
}
