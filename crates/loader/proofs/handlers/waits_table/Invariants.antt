use Rattle.loader.proofs.Waiting.{BeforeRow}
use Rattle.loader.proofs.handlers.waits_table.Given as goal

abbrev pub invariant-loop-routine : goal.invariant-loop-routine
invariant-loop-routine l = BeforeRow l.raw l.waits l.routine-index
