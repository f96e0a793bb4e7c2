use Rattle.vm_law.proofs.Suiting.{scripts_for_images_read_suit, scripts_suit}
use Rattle.vm_law.proofs.suitable_scripts.scripts_suit.Goals as goal

pub returns-clause-framed : goal.returns-clause-framed
returns-clause-framed c = scripts_suit

pub returns-clause-held : goal.returns-clause-held
returns-clause-held c = scripts_for_images_read_suit
