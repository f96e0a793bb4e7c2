use Rattle.vm_watch.proofs.processes.view.Given as goal

abbrev pub ghost-view_on : goal.ghost-view_on
ghost-view_on g a = g.run.image
