use Rattle.vm_watch.proofs.watching.tell.Given as goal

abbrev pub ghost-put_state : goal.ghost-put_state
ghost-put_state g a = g.run
