use Rattle.message_names.proofs.Standing.{lists-each, tells-of-names, tells-of-failures}
use Rattle.message_names.proofs.laws.told_where_rules_fail.Goals as goal

pub returns-clause-places : goal.returns-clause-places
returns-clause-places c g place = lists-each g place

pub returns-clause-names : goal.returns-clause-names
returns-clause-names c g number place = tells-of-names g number place

pub returns-clause-failures : goal.returns-clause-failures
returns-clause-failures c g number place fails = tells-of-failures g number place fails
