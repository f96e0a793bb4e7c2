use Rattle.std.proofs.Common.{◌≡◌, ◌+◌, ◌*◌, ◌≤◌, length}
use Rattle.sched_response.specs.Demand.{task_at}
use Rattle.sched_sensitivity.specs.Slack.{evaluations, IsSpareFrom}
use Rattle.sched_sensitivity.proofs.Paid.{Paid}
use Rattle.sched_sensitivity.proofs.spare.least_extra.Given as goal

abbrev pub invariant-loop-other : goal.invariant-loop-other
invariant-loop-other g l = record {
  kept : l.set ≡ l.fn.set;
  room : (task_at l.fn.set l.level).run + (l.least.extra + 1) ≤ 1000000001;
  on : l.level ≤ l.other;
  from : IsSpareFrom l.fn.set l.level l.other l.least;
  paid : Paid l.fn.set l.other l.least.fails l.steps (l.fn.steps + 31 * evaluations l.fn.set (length l.fn.set));
}
