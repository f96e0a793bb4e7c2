use Rattle.built_valid_law.proofs.EmittedLemmas.{processes_keep}
use Rattle.built_valid_law.proofs.instruction_properties.processes_keep.Goals as goal

pub returns : goal.returns
returns c = processes_keep
