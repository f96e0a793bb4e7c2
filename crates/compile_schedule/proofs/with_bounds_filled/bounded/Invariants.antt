use Rattle.compile_schedule.proofs.Filling.{BoundedSoFar}
use Rattle.compile_schedule.proofs.with_bounds_filled.bounded.Given as goal

abbrev pub invariant-loop-number : goal.invariant-loop-number
invariant-loop-number l = BoundedSoFar l.bounds l.fn.processes l.number l.processes.items
