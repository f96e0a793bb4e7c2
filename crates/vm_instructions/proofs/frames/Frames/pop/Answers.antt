-- A word of the stack is free after it.
use Rattle.vm_instructions.proofs.Rows.{popped_room}
use Rattle.vm_instructions.proofs.frames.Frames.pop.Goals as goal

pub returns-clause-room : goal.returns-clause-room
returns-clause-room c = popped_room c.self.inside c.args.self.now c.self.invariant c.self.view_is c.requires
