use Rattle.printed_law.proofs.PlainMoved.{plain-moved}
use Rattle.printed_law.proofs.rules_fail_alike.programs_stay.Goals as goal

pub returns : goal.returns
returns c = plain-moved
