use Rattle.built_valid_law.proofs.EmittedLemmas.{lies_in_process}
use Rattle.built_valid_law.proofs.instruction_properties.processes_own_their_code.Goals as goal

pub returns : goal.returns
returns c = lies_in_process
