use Rattle.edf_correct.proofs.Admitted.{edf_scripts_suit}
use Rattle.edf_correct.proofs.edf_admitted.edf_scripts_suit.Goals as goal

pub returns : goal.returns
returns c = edf_scripts_suit c.checked_programs_are_ready.ensures c.generated_code_is_code.ensures c.scripts_for_the_names_suit.ensures
