use Rattle.vm_watch.proofs.told.put_one_process.Given as goal

abbrev pub ghost-words_of_process : goal.ghost-words_of_process
ghost-words_of_process g a = g.run

abbrev pub ghost-view : goal.ghost-view
ghost-view g a = g.run
