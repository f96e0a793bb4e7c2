use Rattle.printed_law.proofs.NameRules.{names-stay}
use Rattle.printed_law.proofs.rules_fail_alike.names_fail_alike.Goals as goal

pub returns : goal.returns
returns c = names-stay
