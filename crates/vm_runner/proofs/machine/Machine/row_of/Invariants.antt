use Rattle.vm_runner.specs.Course.{course}
use Rattle.vm_runner.proofs.machine.Machine.row_of.Given as goal

abbrev pub ghost-take_ticks : goal.ghost-take_ticks
ghost-take_ticks g a = course g.D.Dispatch.behaviour g.run.image g.run.script
