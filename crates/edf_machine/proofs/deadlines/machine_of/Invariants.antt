use Rattle.edf_machine.proofs.deadlines.machine_of.Given as goal

abbrev pub ghost-new : goal.ghost-new
ghost-new g a = g.run
