use Rattle.code_measures.proofs.Parts.{processes_are_measured}
use Rattle.code_measures.proofs.measures_of_code.processes_are_measured.Goals as goal

pub returns : goal.returns
returns c = processes_are_measured
