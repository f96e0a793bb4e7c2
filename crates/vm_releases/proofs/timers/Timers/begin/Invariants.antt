use Rattle.vm_releases.proofs.timers.Timers.begin.Given as goal

abbrev pub ghost-begin_lines : goal.ghost-begin_lines
ghost-begin_lines g a = g.image

abbrev pub ghost-do_releases : goal.ghost-do_releases
ghost-do_releases g a = g.image

abbrev pub ghost-do_time_outs : goal.ghost-do_time_outs
ghost-do_time_outs g a = g.image
