use Rattle.message_types.proofs.Agreeing.{of-expr, of-unfit, of-stmt}
use Rattle.message_types.proofs.laws.mismatches_are_failures.Goals as goal

pub returns-clause-expressions : goal.returns-clause-expressions
returns-clause-expressions c named e = of-expr named e

pub returns-clause-wanted : goal.returns-clause-wanted
returns-clause-wanted c named spot s e = of-unfit named spot s e

pub returns-clause-statements : goal.returns-clause-statements
returns-clause-statements c named s = of-stmt named s
