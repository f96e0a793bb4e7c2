use Rattle.built_valid_law.proofs.Texts.{processes_are_fine}
use Rattle.built_valid_law.proofs.operands_of_text.processes_are_fine.Goals as goal

pub returns : goal.returns
returns c = processes_are_fine
