-- The tasks of a program with an overhead.
use Rattle.std.proofs.Common.{◌≡◌, ◌≤◌, ◌<◌, ◌+◌, ◌-◌, ◌*◌, inl, inr, ℕ, zero, suc, List, [], ◌∷◌, length, ap, sym, subst, ◌∙◌, arith, refl}
use Rattle.std.specs.Prelude.{Some, None}
use Rattle.std.proofs.lemmas.Bool.{cases_lt}
use Rattle.std.proofs.Math.Nat.{mul-le-mul_right}
use Rattle.base.specs.Capped.{cap}
use Rattle.syntax_tree.specs.Plain.{Process, Program}
use Rattle.source_semantics.specs.Ranks.{rank}
use Rattle.code_cost_spec.specs.Levels.{cost_of_process}
use Rattle.sched_response.specs.declared.tasks.Task.{Task}
use Rattle.sched_response.specs.Demand.{task_at}
use Rattle.sched_sensitivity.specs.Overhead.{with_overhead}
use Rattle.sched_sensitivity.specs.Overhead as overhead
use Rattle.sched_sensitivity.proofs.Overheads.{as_many}
use Rattle.sched_sensitivity.specs.Slack.{IsTimely}
use Rattle.sched_program.specs.Tasks.{with_dispatches, AreTasksOf, IsInTime, IsTaskOf}
use Rattle.sched_program.specs.WhyLaw.{HasOneTaskList, OverheadsAreAdded, OverheadsThatFitAreOfTheText, TasksInTimeAreProgramsInTime}
use Rattle.sched_program.proofs.Within.{level_within}

task_with : (ts : List Task) (over k : ℕ) → k < length ts → task_at (with_overhead ts over) k ≡ overhead.with_dispatches over (task_at ts k)
task_with [] over k below = absurd (omega (arith, below))
task_with (t ∷ ts) over zero below = refl
task_with (t ∷ ts) over (suc k) below = task_with ts over k (omega (arith, below))

none_at_all : (w : ℕ) → 2 * 0 * (1 + w) ≡ 0
none_at_all w = grind arith

-- dispatches that are added to a counted cost, of waits that are counted
dispatches_added : (run waits over : ℕ) → cap (cap (run + 2 * 0 * (1 + waits)) + 2 * over * (1 + cap waits)) ≡ cap (run + 2 * over * (1 + waits))
dispatches_added run waits over = elim (cases_lt waits 1000000001) [
  | inl low ↦
      let same : 2 * over * (1 + cap waits) ≡ 2 * over * (1 + waits) = ap (λ n. 2 * over * (1 + n)) (let h : cap waits ≡ waits = omega (arith, low) in h) in
      omega (arith, none_at_all waits, same)
  | inr high ↦ many over high
] where
  many : (m : ℕ) → 1000000001 ≤ waits → cap (cap (run + 2 * 0 * (1 + waits)) + 2 * m * (1 + cap waits)) ≡ cap (run + 2 * m * (1 + waits))
  many zero high = omega (arith, none_at_all waits, none_at_all (cap waits))
  many (suc m) high =
      let first : 2 * (1 + cap waits) ≤ 2 * suc m * (1 + cap waits) = mul-le-mul_right (1 + cap waits) (let h : 2 ≤ 2 * suc m = omega arith in h) in
      let second : 2 * (1 + waits) ≤ 2 * suc m * (1 + waits) = mul-le-mul_right (1 + waits) (let h : 2 ≤ 2 * suc m = omega arith in h) in
      omega (arith, first, second, high)

task_added : (g : Program) (over k : ℕ) (p : Process) (t : Task) → IsTaskOf g 0 k p t → IsTaskOf g over k p (overhead.with_dispatches over t)
task_added g over k p t is =
    let c = cost_of_process g k p in
    record {
      frame = is.frame;
      deadline = is.deadline;
      run = ap (λ n. cap (n + 2 * over * (1 + t.waits))) is.run ∙ (ap (λ n. cap (cap (with_dispatches 0 c) + 2 * over * (1 + n))) is.waits ∙ dispatches_added c.run c.waits over);
      susp = is.susp;
      waits = is.waits;
      block = is.block;
    }

pub added : OverheadsAreAdded
added g over ts are = record {
  one_each = as_many ts over ∙ are.one_each;
  each = λ k p there.
      let level : rank g k - 1 < length ts = omega (arith, level_within g k p there, are.one_each) in
      subst (λ (t : Task). IsTaskOf g over k p t) (sym (task_with ts over (rank g k - 1) level)) (task_added g over k p (task_at ts (rank g k - 1)) (are.each k p there));
}

pub in_time : TasksInTimeAreProgramsInTime
in_time g over ts are timely = record { tasks = with_overhead ts over; are = added g over ts are; each = timely }

timely_by : (g : Program) (ts : List Task) (over : ℕ) → HasOneTaskList g → AreTasksOf g 0 ts → IsInTime g over → IsTimely (with_overhead ts over)
timely_by g ts over one are in_time = subst (λ (us : List Task). IsTimely us) (one over in_time.tasks (with_overhead ts over) in_time.are (added g over ts are)) in_time.each

pub that_fit : OverheadsThatFitAreOfTheText
that_fit g ts None one are none = λ in_time. none (timely_by g ts 0 one are in_time)
that_fit g ts (Some over) one are fit = record {
  in_range = fit.in_range;
  fits = in_time g over ts are fit.fits;
  greatest = λ other low timely. fit.greatest other low (timely_by g ts other one are timely);
}
