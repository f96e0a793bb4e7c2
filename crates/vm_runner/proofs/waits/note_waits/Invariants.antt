use Rattle.vm_runner.proofs.waits.note_waits.Given as goal

abbrev pub ghost-note_all : goal.ghost-note_all
ghost-note_all g a = g.image
