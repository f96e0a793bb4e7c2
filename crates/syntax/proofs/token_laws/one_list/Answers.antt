use Rattle.syntax.proofs.LawLemmas.{one_list}
use Rattle.syntax.proofs.token_laws.one_list.Goals as goal

pub returns : goal.returns
returns c = one_list
