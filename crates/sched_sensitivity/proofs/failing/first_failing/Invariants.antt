use Rattle.std.proofs.Common.{◌+◌, ◌≤◌, ◌<◌, ℕ}
use Rattle.sched_response.specs.Demand.{Solves}
use Rattle.sched_sensitivity.specs.Slack.{evaluations}
use Rattle.sched_sensitivity.proofs.failing.first_failing.Given as goal

abbrev pub invariant-loop-level : goal.invariant-loop-level
invariant-loop-level g l = record {
  solved : (other : ℕ) → other < l.level → (r : ℕ) × Solves l.set other r;
  cost : l.steps ≤ l.fn.steps + evaluations l.set l.level;
}
