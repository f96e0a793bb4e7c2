use Rattle.std.proofs.Common.{◌≡◌}
use Rattle.codegen.proofs.texts.routines.Given as goal

abbrev pub invariant-loop-text : goal.invariant-loop-text
invariant-loop-text l = l.builder ≡ record l.fn.builder { routines = l.text-index }
