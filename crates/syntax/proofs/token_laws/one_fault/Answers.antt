use Rattle.syntax.proofs.LawLemmas.{tokens_or_fault, one_fault}
use Rattle.syntax.proofs.token_laws.one_fault.Goals as goal

pub returns-clause-apart : goal.returns-clause-apart
returns-clause-apart c = tokens_or_fault

pub returns-clause-one : goal.returns-clause-one
returns-clause-one c = one_fault
