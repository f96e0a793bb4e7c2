use Rattle.vm_watch.proofs.told.put_state.Given as goal

abbrev pub ghost-put_processes : goal.ghost-put_processes
ghost-put_processes g a = g.run

abbrev pub ghost-put_monitors : goal.ghost-put_monitors
ghost-put_monitors g a = g.run
