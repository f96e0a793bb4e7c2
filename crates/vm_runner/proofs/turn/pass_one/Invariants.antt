use Rattle.vm_runner.proofs.turn.pass_one.Given as goal

abbrev pub ghost-ticks_left : goal.ghost-ticks_left
ghost-ticks_left g a = g.course

abbrev pub ghost-pass : goal.ghost-pass
ghost-pass g a = g.course.image
