use Rattle.compile_schedule.proofs.Filling.{BlockedSoFar}
use Rattle.compile_schedule.proofs.processes.blocked.Given as goal

abbrev pub invariant-loop-number : goal.invariant-loop-number
invariant-loop-number l = BlockedSoFar l.blocks l.fn.processes l.number l.processes.items
