use Rattle.loader_code.proofs.Following.{Before}
use Rattle.loader_code.proofs.bases.base_fault.Given as goal

abbrev pub invariant-loop-m : goal.invariant-loop-m
invariant-loop-m l = Before l.monitors l.due l.m
