use Rattle.loader.proofs.Bodies.{BeforeProcess}
use Rattle.loader.proofs.parts.processes_fault.Given as goal

abbrev pub invariant-loop-process : goal.invariant-loop-process
invariant-loop-process l = BeforeProcess l.raw l.parts l.process-index
