use Rattle.compile_schedule.proofs.Filling.{RankedSoFar}
use Rattle.compile_schedule.proofs.processes.ranked.Given as goal

abbrev pub invariant-loop-number : goal.invariant-loop-number
invariant-loop-number l = RankedSoFar l.ranks l.fn.processes l.number l.processes.items
