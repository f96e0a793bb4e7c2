use Rattle.std.proofs.Common.{◌≡◌, ◌++◌, [], drop}
use Rattle.static_calls.specs.Tables.{seen_routines, waiters}
use Rattle.static_calls.proofs.numbers.waiters.Given as goal

abbrev pub invariant-loop-routine : goal.invariant-loop-routine
invariant-loop-routine l = l.waiters.items ++ waiters l.numbers.keys (seen_routines (drop l.routine-index l.routines)) [] ≡ waiters l.numbers.keys (seen_routines l.routines) []
