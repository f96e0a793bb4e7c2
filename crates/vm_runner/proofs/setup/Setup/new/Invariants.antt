use Rattle.vm_runner.proofs.setup.Setup.new.Given as goal

abbrev pub ghost-new : goal.ghost-new
ghost-new g a = g.run.image
