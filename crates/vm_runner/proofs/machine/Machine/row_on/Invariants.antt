use Rattle.vm_runner.proofs.machine.Machine.row_on.Given as goal

abbrev pub ghost-rows_of : goal.ghost-rows_of
ghost-rows_of g a = g.run
