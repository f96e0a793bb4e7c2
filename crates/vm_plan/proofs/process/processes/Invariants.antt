use Rattle.std.proofs.Common.{take}
use Rattle.vm_state.specs.Plan.{AreProcesses}
use Rattle.vm_plan.proofs.process.processes.Given as goal

abbrev pub invariant-loop-number : goal.invariant-loop-number
invariant-loop-number l = AreProcesses (take l.number l.image.image.processes) l.processes.items
