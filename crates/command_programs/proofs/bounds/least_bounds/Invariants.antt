use Rattle.std.proofs.Common.{map}
use Rattle.image.specs.Raw.{process_of}
use Rattle.command_programs.proofs.Growing.{LeastSoFar}
use Rattle.command_programs.proofs.bounds.least_bounds.Given as goal

abbrev pub invariant-loop-number : goal.invariant-loop-number
invariant-loop-number l = LeastSoFar (map process_of l.processes) l.set l.number l.all
