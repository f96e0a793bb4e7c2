use Rattle.built_valid_law.proofs.Texts.{routines_are_fine}
use Rattle.built_valid_law.proofs.operands_of_text.routines_are_fine.Goals as goal

pub returns : goal.returns
returns c = routines_are_fine
