-- What a fit tells of the tasks as they are.
use Rattle.std.proofs.Common.{◌≡◌, ◌≤◌, ◌<◌, ◌+◌, ◌-◌, ◌↔◌, ℕ, List, length, sym, subst, arith}
use Rattle.sched_response.specs.declared.tasks.Task.{Task}
use Rattle.sched_response.specs.Demand.{task_at, with_run}
use Rattle.sched_sensitivity.specs.Slack.{IsSlack, IsTimely}
use Rattle.sched_sensitivity.specs.declared.fitting.Varied.{Varied}
use Rattle.sched_sensitivity.specs.declared.fitting.Varied.TheVariants.{Cost}
use Rattle.sched_sensitivity.specs.Fit.{with_number, IsGreatestFit}
use Rattle.sched_sensitivity.specs.Numbers.{number_at}
use Rattle.sched_sensitivity.proofs.Changed.{as_it_is, falls}

own_fits : (number : Varied) (ts : List Task) (level : ℕ) → IsTimely ts → IsTimely (with_number number ts level (number_at number ts level))
own_fits number ts level timely = subst (λ (us : List Task). IsTimely us) (sym (as_it_is number ts level)) timely

own_was : (number : Varied) (ts : List Task) (level : ℕ) → IsTimely (with_number number ts level (number_at number ts level)) → IsTimely ts
own_was number ts level timely = subst (λ (us : List Task). IsTimely us) (as_it_is number ts level) timely

pub has_some : (number : Varied) (ts : List Task) (level x : ℕ) → level < length ts → IsGreatestFit number ts level x → IsTimely ts ↔ (number_at number ts level ≤ x)
has_some number ts level x below fit = (
  λ timely. fit.greatest (number_at number ts level) (own_fits number ts level timely),
  λ low. own_was number ts level (falls number ts level (number_at number ts level) x below low fit.fits),
)

pub has_none : (number : Varied) (ts : List Task) (level : ℕ) → level < length ts → (IsTimely (with_number number ts level 0) → ⊥) → IsTimely ts → ⊥
has_none number ts level below none timely = none (falls number ts level 0 (number_at number ts level) below (omega arith) (own_fits number ts level timely))

pub is_slack : (ts : List Task) (level x spare : ℕ) → level < length ts → IsTimely ts → IsGreatestFit Cost ts level x → IsSlack ts level spare → x ≡ (task_at ts level).run + spare
is_slack ts level x spare below timely fit slack =
    let run = (task_at ts level).run in
    let low : run ≤ x = fit.greatest run (own_fits Cost ts level timely) in
    let up : run + spare ≤ x = fit.greatest (run + spare) slack.fits in
    let split : x ≡ run + (x - run) = omega (arith, low) in
    let down : x - run ≤ spare = slack.greatest (x - run) (subst (λ n. IsTimely (with_run ts level n)) split fit.fits) in
    omega (arith, low, up, down)
