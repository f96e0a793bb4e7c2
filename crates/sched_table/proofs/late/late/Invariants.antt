use Rattle.std.proofs.Common.{◌≡◌, drop}
use Rattle.sched_table.specs.Late.{late}
use Rattle.sched_table.proofs.late.late.Given as goal

abbrev pub invariant-loop-at : goal.invariant-loop-at
invariant-loop-at l = late (drop l.at l.names) (drop l.at l.rows) ≡ late l.names l.rows
