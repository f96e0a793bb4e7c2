use Rattle.codegen_law.proofs.NumberedLemmas.{routines_are_numbered}
use Rattle.codegen_law.proofs.routine_numbers.routines_are_numbered.Goals as goal

pub returns : goal.returns
returns c = routines_are_numbered
