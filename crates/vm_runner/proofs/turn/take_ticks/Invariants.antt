use Rattle.vm_runner.proofs.turn.take_ticks.Given as goal

abbrev pub ghost-pass_ticks : goal.ghost-pass_ticks
ghost-pass_ticks g a = g.course

abbrev pub ghost-note_waits : goal.ghost-note_waits
ghost-note_waits g a = g.course.image
