use Rattle.script.proofs.Once.{one_saying, one_text}
use Rattle.script.proofs.one_script_law.one_script.Goals as goal

pub returns-clause-line : goal.returns-clause-line
returns-clause-line c = one_saying

pub returns-clause-text : goal.returns-clause-text
returns-clause-text c = one_text
