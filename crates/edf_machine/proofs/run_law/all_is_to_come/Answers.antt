use Rattle.edf_machine.proofs.Rest.{all_is_to_come}
use Rattle.edf_machine.proofs.run_law.all_is_to_come.Goals as goal

pub returns : goal.returns
returns c = all_is_to_come
