use Rattle.machine_isa.proofs.Back.{are_distinct}
use Rattle.machine_isa.proofs.isa.instructions_are_distinct.Goals as goal

pub returns : goal.returns
returns c = are_distinct
