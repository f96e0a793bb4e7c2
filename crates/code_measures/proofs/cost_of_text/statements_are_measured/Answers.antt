use Rattle.code_measures.proofs.CostStmts.{statements}
use Rattle.code_measures.proofs.cost_of_text.statements_are_measured.Goals as goal

pub returns : goal.returns
returns c = statements
