use Rattle.examples_law.proofs.Nested.{callees_first}
use Rattle.examples_law.proofs.mine_pump_code.callees_come_first.Goals as goal

pub returns : goal.returns
returns c = callees_first
