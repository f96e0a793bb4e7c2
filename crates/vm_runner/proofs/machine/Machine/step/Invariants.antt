use Rattle.vm_runner.proofs.machine.Machine.step.Given as goal

abbrev pub ghost-begin_turn : goal.ghost-begin_turn
ghost-begin_turn g a = g.run

abbrev pub ghost-rows_of : goal.ghost-rows_of
ghost-rows_of g a = g.run
