use Rattle.vm_runner.proofs.machine.Machine.advance_row_to.Given as goal

abbrev pub ghost-step : goal.ghost-step
ghost-step g a = g.run

abbrev pub ghost-rows_on : goal.ghost-rows_on
ghost-rows_on g a = g.run
