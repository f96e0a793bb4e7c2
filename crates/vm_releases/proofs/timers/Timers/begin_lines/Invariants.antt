use Rattle.vm_releases.proofs.timers.Timers.begin_lines.Given as goal

abbrev pub ghost-do_lines : goal.ghost-do_lines
ghost-do_lines g a = g.image
