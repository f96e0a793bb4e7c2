use Rattle.std.proofs.Common.{◌≡◌, ◌+◌, ◌-◌, drop}
use Rattle.std.specs.Prelude.{sum_by}
use Rattle.table_format.specs.Rules.{least_cost}
use Rattle.table_format.proofs.processes.ticks_left.Given as goal

abbrev pub invariant-loop-stay : goal.invariant-loop-stay
invariant-loop-stay l = l.left - sum_by (λ s. 15 + s.ticks) (drop l.stay-index l.stays) ≡ l.task.cost - least_cost l.task
