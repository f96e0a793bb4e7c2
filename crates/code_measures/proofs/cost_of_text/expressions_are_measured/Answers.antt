use Rattle.code_measures.proofs.CostStmts.{expressions}
use Rattle.code_measures.proofs.cost_of_text.expressions_are_measured.Goals as goal

pub returns : goal.returns
returns c = expressions
