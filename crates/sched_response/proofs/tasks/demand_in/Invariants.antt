use Rattle.std.proofs.Common.{◌≡◌, take}
use Rattle.sched_response.specs.Demand.{demand_of}
use Rattle.sched_response.proofs.tasks.demand_in.Given as goal

abbrev pub invariant-loop-task : goal.invariant-loop-task
invariant-loop-task l = l.total ≡ demand_of l.own (take l.task-index l.before) l.r
