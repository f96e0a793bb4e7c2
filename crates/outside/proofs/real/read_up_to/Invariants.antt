use Rattle.std.proofs.Common.{◌≤◌, vec_len}
use Rattle.outside.proofs.real.read_up_to.Given as goal

abbrev pub invariant-loop : goal.invariant-loop
invariant-loop g l = vec_len l.all ≤ l.most
