use Rattle.edf_machine.proofs.deadlines.machine_by_deadlines.Given as goal

abbrev pub ghost-new : goal.ghost-new
ghost-new g a = g.run

abbrev pub ghost-machine_of : goal.ghost-machine_of
ghost-machine_of g a = g.run
