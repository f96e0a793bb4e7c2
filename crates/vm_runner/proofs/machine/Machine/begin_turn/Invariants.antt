use Rattle.vm_runner.proofs.machine.Machine.begin_turn.Given as goal

abbrev pub ghost-begin : goal.ghost-begin
ghost-begin g a = g.run.image
