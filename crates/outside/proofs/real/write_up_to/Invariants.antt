use Rattle.std.proofs.Common.{◌≤◌, length}
use Rattle.outside.proofs.real.write_up_to.Given as goal

abbrev pub invariant-loop : goal.invariant-loop
invariant-loop g l = l.written ≤ length l.bytes
