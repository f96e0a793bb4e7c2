use Rattle.std.proofs.Common.{◌≡◌}
use Rattle.codegen.proofs.texts.processes.Given as goal

abbrev pub invariant-loop-number : goal.invariant-loop-number
invariant-loop-number l = l.builder ≡ record l.fn.builder { processes = l.number }
