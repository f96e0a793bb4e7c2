use Rattle.code_measures.proofs.Parts.{routines_are_measured}
use Rattle.code_measures.proofs.measures_of_code.routines_are_measured.Goals as goal

pub returns : goal.returns
returns c = routines_are_measured
