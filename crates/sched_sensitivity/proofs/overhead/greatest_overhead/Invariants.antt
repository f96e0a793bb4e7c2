use Rattle.std.proofs.Common.{◌-◌, ◌+◌, ◌*◌, ◌^◌, ◌≤◌, ◌<◌, ℕ, length}
use Rattle.sched_sensitivity.specs.Slack.{evaluations, IsTimely}
use Rattle.sched_sensitivity.specs.Overhead.{with_overhead}
use Rattle.sched_sensitivity.proofs.overhead.greatest_overhead.Given as goal

-- each pass halves what is between, and takes at most the evaluations of all levels
abbrev pub invariant-loop-too_many : goal.invariant-loop-too_many
invariant-loop-too_many g l = record {
  fits : IsTimely (with_overhead l.tasks l.most);
  fails : (y : ℕ) → l.too_many ≤ y → y ≤ 1000 → ¬ IsTimely (with_overhead l.tasks y);
  between : l.most < l.too_many;
  below : l.too_many ≤ 1001;
  passes : (left : ℕ) × (l.too_many ≤ l.most + 2 ^ left) × (l.steps + left * evaluations l.tasks (length l.tasks) ≤ l.fn.steps + 10 * evaluations l.tasks (length l.tasks));
}

abbrev pub decreases-loop-too_many : goal.decreases-loop-too_many
decreases-loop-too_many g l = l.too_many - l.most
