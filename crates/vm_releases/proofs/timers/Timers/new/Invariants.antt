use Rattle.vm_releases.proofs.timers.Timers.new.Given as goal

abbrev pub ghost-new : goal.ghost-new
ghost-new g a = g.image

abbrev pub ghost-first_slots : goal.ghost-first_slots
ghost-first_slots g a = g.image
