use Rattle.vm_watch.proofs.watching.watch_by.Given as goal

abbrev pub ghost-new : goal.ghost-new
ghost-new g a = g.run.image

abbrev pub ghost-run : goal.ghost-run
ghost-run g a = g.run.image

abbrev pub ghost-tell : goal.ghost-tell
ghost-tell g a = g.run
