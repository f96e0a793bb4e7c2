use Rattle.printed_law.proofs.Calls.{reaching-stays}
use Rattle.printed_law.proofs.rules_fail_alike.calls_fail_alike.Goals as goal

pub returns : goal.returns
returns c = reaching-stays
