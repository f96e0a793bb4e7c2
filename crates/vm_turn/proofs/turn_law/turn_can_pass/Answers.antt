use Rattle.vm_turn.proofs.Safely.{turn_can_pass}
use Rattle.vm_turn.proofs.turn_law.turn_can_pass.Goals as goal

pub returns : goal.returns
returns c = turn_can_pass
