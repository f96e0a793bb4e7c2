use Rattle.std.proofs.Common.{◌≡◌, ◌-◌, ◌+◌, ◌*◌, ◌^◌, ◌≤◌, ◌<◌, ℕ, length}
use Rattle.sched_response.specs.Demand.{deadline_at}
use Rattle.sched_sensitivity.specs.Slack.{evaluations, IsTimely}
use Rattle.sched_sensitivity.specs.Fit.{with_number}
use Rattle.sched_sensitivity.proofs.fitting.greatest_fit.Given as goal

-- each pass halves what is between, and takes at most the evaluations of all levels
abbrev pub invariant-loop-too_many : goal.invariant-loop-too_many
invariant-loop-too_many g l = record {
  kept : l.set ≡ l.fn.set;
  fits : IsTimely (with_number l.number l.fn.set l.level l.most);
  fails : ¬ IsTimely (with_number l.number l.fn.set l.level l.too_many);
  between : l.most < l.too_many;
  below : l.too_many ≤ deadline_at l.fn.set l.level + 1;
  room : deadline_at l.fn.set l.level ≤ 1000000000;
  passes : (left : ℕ) × (l.too_many ≤ l.most + 2 ^ left) × (l.steps + left * evaluations l.fn.set (length l.fn.set) ≤ l.fn.steps + 30 * evaluations l.fn.set (length l.fn.set));
}

abbrev pub decreases-loop-too_many : goal.decreases-loop-too_many
decreases-loop-too_many g l = l.too_many - l.most
