use Rattle.std.proofs.Common.{◌≡◌, ◌+◌, ◌<◌, ◌≤◌, ℕ}
use Rattle.sched_sensitivity.specs.Slack.{evaluations, with_more, Responds}
use Rattle.sched_sensitivity.proofs.spare.first_with_more.Given as goal

abbrev pub invariant-loop-other : goal.invariant-loop-other
invariant-loop-other g l = record {
  kept : l.set ≡ l.fn.set;
  before : (k : ℕ) → l.level ≤ k → k < l.other → Responds (with_more l.fn.set l.level (l.least.extra + 1)) k;
  cost : l.steps ≤ l.fn.steps + evaluations l.fn.set l.other;
}
