use Rattle.std.proofs.Common.{◌≡◌, ◌-◌, ◌+◌, ◌*◌, ◌^◌, ◌≤◌, ◌<◌, ℕ}
use Rattle.sched_response.specs.Demand.{task_at}
use Rattle.sched_sensitivity.specs.Slack.{evaluations_at, with_more, Responds}
use Rattle.sched_sensitivity.proofs.spare.greatest_extra.Given as goal

-- each pass halves what is between, and takes at most the evaluations of the level
abbrev pub invariant-loop-too_many : goal.invariant-loop-too_many
invariant-loop-too_many g l = record {
  kept : l.set ≡ l.fn.set;
  fits : Responds (with_more l.fn.set l.level l.extra) l.other;
  fails : ¬ Responds (with_more l.fn.set l.level l.too_many) l.other;
  between : l.extra < l.too_many;
  below : l.too_many ≤ l.failing;
  room : (task_at l.fn.set l.level).run + l.too_many ≤ 1000000001;
  passes : (left : ℕ) × (l.too_many ≤ l.extra + 2 ^ left) × (l.steps + left * evaluations_at l.fn.set l.other ≤ l.fn.steps + 30 * evaluations_at l.fn.set l.other);
}

abbrev pub decreases-loop-too_many : goal.decreases-loop-too_many
decreases-loop-too_many g l = l.too_many - l.extra
