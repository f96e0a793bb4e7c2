use Rattle.vm_watch.proofs.told.put_one_monitor.Given as goal

abbrev pub ghost-words_of_monitor : goal.ghost-words_of_monitor
ghost-words_of_monitor g a = g.run

abbrev pub ghost-occupant : goal.ghost-occupant
ghost-occupant g a = g.run
