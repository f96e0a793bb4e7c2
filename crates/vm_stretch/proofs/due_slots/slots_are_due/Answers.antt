use Rattle.vm_stretch.proofs.StartLawsMoving.{slots_are_due}
use Rattle.vm_stretch.proofs.due_slots.slots_are_due.Goals as goal

pub returns : goal.returns
returns c = slots_are_due
