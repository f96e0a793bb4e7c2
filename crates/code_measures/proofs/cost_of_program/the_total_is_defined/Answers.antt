use Rattle.code_measures.proofs.Total.{total_defined}
use Rattle.code_measures.proofs.cost_of_program.the_total_is_defined.Goals as goal

pub returns : goal.returns
returns c = total_defined
