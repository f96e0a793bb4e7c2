use Rattle.compile_schedule.proofs.Filling.{CeiledSoFar}
use Rattle.compile_schedule.proofs.processes.ceiled.Given as goal

abbrev pub invariant-loop-number : goal.invariant-loop-number
invariant-loop-number l = CeiledSoFar l.ceilings l.fn.monitors l.number l.monitors.items
