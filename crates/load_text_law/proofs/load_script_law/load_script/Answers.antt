use Rattle.std.proofs.Common.{refl}
use Rattle.load_text_law.proofs.Elements.{is_script}
use Rattle.load_text_law.proofs.load_script_law.load_script.Goals as goal

pub returns-clause-script : goal.returns-clause-script
returns-clause-script c names device key count there some few = is_script names device key count there some few

pub returns-clause-device : goal.returns-clause-device
returns-clause-device c key count = refl
