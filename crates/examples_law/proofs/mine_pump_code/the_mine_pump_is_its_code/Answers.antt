use Rattle.std.proofs.Common.{refl}
use Rattle.examples_law.proofs.MineLemmas.{mine_is_code}
use Rattle.examples_law.proofs.mine_pump_code.the_mine_pump_is_its_code.Goals as goal

pub returns : goal.returns
returns c = record { code = mine_is_code; size = refl }
