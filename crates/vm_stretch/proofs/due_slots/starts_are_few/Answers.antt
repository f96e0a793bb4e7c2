use Rattle.vm_stretch.proofs.Counting.{starts_are_few}
use Rattle.vm_stretch.proofs.due_slots.starts_are_few.Goals as goal

pub returns : goal.returns
returns c = starts_are_few
