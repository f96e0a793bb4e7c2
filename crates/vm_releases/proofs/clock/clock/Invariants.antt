use Rattle.vm_releases.proofs.clock.clock.Given as goal

abbrev pub ghost-release : goal.ghost-release
ghost-release g a = g.image
