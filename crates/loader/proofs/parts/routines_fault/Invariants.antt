use Rattle.std.proofs.Common.{◌≡◌}
use Rattle.loader.proofs.Shaping.{Before}
use Rattle.loader.proofs.parts.routines_fault.Given as goal

abbrev pub invariant-loop-routine : goal.invariant-loop-routine
invariant-loop-routine l = record {
  before : Before l.raw l.parts l.routine-index;
  processes : l.parts.processes ≡ l.initial.parts.processes;
}
