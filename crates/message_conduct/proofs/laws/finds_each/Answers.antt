use Rattle.message_conduct.proofs.Found.{finds-misplaced, finds-misdirected}
use Rattle.message_conduct.proofs.laws.finds_each.Goals as goal

pub returns-clause-misplaced : goal.returns-clause-misplaced
returns-clause-misplaced c named x = finds-misplaced named x

pub returns-clause-misdirected : goal.returns-clause-misdirected
returns-clause-misdirected c named x = finds-misdirected named x
