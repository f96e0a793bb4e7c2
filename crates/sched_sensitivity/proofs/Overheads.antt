-- Tasks with an overhead.
use Rattle.std.proofs.Common.{◌≡◌, ◌≤◌, ◌<◌, ◌+◌, ◌*◌, ◌↔◌, inl, inr, ℕ, zero, suc, List, [], ◌∷◌, length, ap, sym, subst, ◌∙◌, arith, refl}
use Rattle.std.proofs.lemmas.Bool.{cases_lt}
use Rattle.std.proofs.lemmas.List.Elements.{All-get_or, All-from_get_or}
use Rattle.std.proofs.lemmas.List.Sorted.{IsNonDecreasingBy-from_default}
use Rattle.std.proofs.Math.Nat.{mul-le-mul_right}
use Rattle.sched_response.specs.declared.tasks.Task.{Task}
use Rattle.sched_response.specs.Demand.{task_at, AreTasks, IsTask}
use Rattle.sched_sensitivity.specs.Slack.{evaluations, IsTimely}
use Rattle.sched_sensitivity.specs.Overhead.{with_dispatches, with_overhead, IsGreatestOverhead}
use Rattle.sched_sensitivity.proofs.Less.{nobody, AsksLess, AskLess, evaluations_same, timely_less}

pub as_many : (ts : List Task) (over : ℕ) → length (with_overhead ts over) ≡ length ts
as_many [] over = refl
as_many (t ∷ ts) over = ap (λ n. suc n) (as_many ts over)

task_with : (ts : List Task) (over k : ℕ) → k < length ts → task_at (with_overhead ts over) k ≡ with_dispatches over (task_at ts k)
task_with [] over k below = absurd (omega (arith, below))
task_with (t ∷ ts) over zero below = refl
task_with (t ∷ ts) over (suc k) below = task_with ts over k (omega (arith, below))

is_task : (t : Task) (over : ℕ) → IsTask t → IsTask (with_dispatches over t)
is_task t over is = record {
  frame_low = is.frame_low;
  frame_high = is.frame_high;
  deadline_low = is.deadline_low;
  deadline_high = is.deadline_high;
  run = omega arith;
  susp = is.susp;
  waits = is.waits;
  block = is.block;
}

pub are_tasks : (ts : List Task) (over : ℕ) → AreTasks ts → AreTasks (with_overhead ts over)
are_tasks ts over are = record {
  ascending = IsNonDecreasingBy-from_default (λ (t : Task). t.deadline) (with_overhead ts over) nobody (λ i j low below.
      let within : j < length ts = omega (arith, below, as_many ts over) in
      let first = ap (λ (t : Task). t.deadline) (task_with ts over i (omega (arith, low, within))) in
      let second = ap (λ (t : Task). t.deadline) (task_with ts over j within) in
      let h = are.ascending i j nobody low within in
      omega (arith, first, second, h));
  some = omega (arith, as_many ts over, are.some);
  few = omega (arith, as_many ts over, are.few);
  each = All-from_get_or IsTask (with_overhead ts over) nobody (λ i below.
      let within : i < length ts = omega (arith, below, as_many ts over) in
      subst (λ (t : Task). IsTask t) (sym (task_with ts over i within)) (is_task (task_at ts i) over (All-get_or IsTask ts i nobody within are.each)));
}

less_overhead : (t : Task) (x y : ℕ) → x ≤ y → AsksLess (with_dispatches x t) (with_dispatches y t)
less_overhead t x y low =
    let more : 2 * x * (1 + t.waits) ≤ 2 * y * (1 + t.waits) = mul-le-mul_right (1 + t.waits) (let h : 2 * x ≤ 2 * y = omega (arith, low) in h) in
    record { frame = refl; deadline = refl; ticks = omega (arith, more); waits = refl; block = refl }

ask_less : (ts : List Task) (x y : ℕ) → x ≤ y → AskLess (length ts) (with_overhead ts x) (with_overhead ts y)
ask_less ts x y low = record {
  fit = omega (arith, as_many ts x);
  fit_too = omega (arith, as_many ts y);
  each = λ k below.
      subst (λ (u : Task). AsksLess u (task_at (with_overhead ts y) k)) (sym (task_with ts x k below))
      (subst (λ (u : Task). AsksLess (with_dispatches x (task_at ts k)) u) (sym (task_with ts y k below)) (less_overhead (task_at ts k) x y low));
}

-- with a smaller overhead they are in time too
pub falls : (ts : List Task) (x y : ℕ) → x ≤ y → IsTimely (with_overhead ts y) → IsTimely (with_overhead ts x)
falls ts x y low timely =
    timely_less (with_overhead ts x) (with_overhead ts y) (as_many ts x ∙ sym (as_many ts y))
    (subst (λ n. AskLess n (with_overhead ts x) (with_overhead ts y)) (sym (as_many ts y)) (ask_less ts x y low)) timely

more_run : (t : Task) (over : ℕ) → IsTask t → AsksLess t (with_dispatches over t)
more_run t over is = record { frame = refl; deadline = refl; ticks = omega (arith, is.run); waits = refl; block = refl }

-- what may be evaluated stays
pub evaluations_stay : (ts : List Task) (over : ℕ) → AreTasks ts → evaluations (with_overhead ts over) (length (with_overhead ts over)) ≡ evaluations ts (length ts)
evaluations_stay ts over are =
    ap (λ n. evaluations (with_overhead ts over) n) (as_many ts over)
    ∙ sym (evaluations_same ts (with_overhead ts over) (length ts) (record {
      fit = omega arith;
      fit_too = omega (arith, as_many ts over);
      each = λ k below. subst (λ (u : Task). AsksLess (task_at ts k) u) (sym (task_with ts over k below)) (more_run (task_at ts k) over (All-get_or IsTask ts k nobody below are.each));
    }))

-- the last overhead before those that do not fit
pub greatest : (ts : List Task) (x high : ℕ) → high ≡ x + 1 → high ≤ 1001 → IsTimely (with_overhead ts x) → ((y : ℕ) → high ≤ y → y ≤ 1000 → ¬ IsTimely (with_overhead ts y)) → IsGreatestOverhead ts x
greatest ts x high next low fits fails = record {
  in_range = omega (arith, next, low);
  fits = fits;
  greatest = λ y most timely. elim (cases_lt x y) [
    | inl more ↦ absurd (fails y (omega (arith, more, next)) most timely)
    | inr le ↦ le
  ];
}

pub has_some : (ts : List Task) (over x : ℕ) → over ≤ 1000 → IsGreatestOverhead ts x → IsTimely (with_overhead ts over) ↔ (over ≤ x)
has_some ts over x low fit = (λ timely. fit.greatest over low timely, λ less. falls ts over x less fit.fits)

pub has_none : (ts : List Task) (over : ℕ) → (IsTimely (with_overhead ts 0) → ⊥) → IsTimely (with_overhead ts over) → ⊥
has_none ts over none timely = none (falls ts 0 over (omega arith) timely)
