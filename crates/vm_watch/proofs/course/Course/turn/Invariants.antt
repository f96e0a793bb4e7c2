use Rattle.vm_watch.proofs.course.Course.turn.Given as goal

abbrev pub ghost-follow : goal.ghost-follow
ghost-follow g a = g.image
