use Rattle.vm_law.proofs.There.{valid_operands_are_there}
use Rattle.vm_law.proofs.numbers_in_range.valid_operands_are_there.Goals as goal

pub returns : goal.returns
returns c = valid_operands_are_there
