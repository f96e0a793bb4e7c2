use Rattle.std.proofs.Common.{◌-◌, ◌≡◌, ◌+◌, ◌≤◌, ◌<◌, ℕ, take}
use Rattle.sched_response.specs.Demand.{Solves, starts_in, demand_at}
use Rattle.sched_response.proofs.least.bound.Given as goal

abbrev pub invariant-loop-response : goal.invariant-loop-response
invariant-loop-response g l = record {
  found : l.asked ≡ demand_at l.set l.level l.response;
  above : 1 ≤ l.response;
  within : l.response ≤ l.limit;
  least : (other : ℕ) → Solves l.set l.level other → l.response ≤ other;
  going : l.response < l.asked → l.steps ≤ l.fn.steps + (1 + starts_in l.response (take l.level l.set));
  over : l.steps ≤ l.fn.steps + (2 + starts_in l.response (take l.level l.set));
}

abbrev pub decreases-loop-response : goal.decreases-loop-response
decreases-loop-response g l = l.limit - l.response
