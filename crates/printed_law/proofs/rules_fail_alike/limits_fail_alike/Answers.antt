use Rattle.printed_law.proofs.Numbers.{limits-stay}
use Rattle.printed_law.proofs.rules_fail_alike.limits_fail_alike.Goals as goal

pub returns : goal.returns
returns c = limits-stay
