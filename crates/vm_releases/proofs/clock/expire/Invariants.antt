use Rattle.vm_releases.proofs.clock.expire.Given as goal

abbrev pub ghost-time_out : goal.ghost-time_out
ghost-time_out g a = g.image
