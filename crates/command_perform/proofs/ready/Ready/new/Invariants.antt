use Rattle.command_perform.proofs.ready.Ready.new.Given as goal

abbrev pub ghost-new : goal.ghost-new
ghost-new g a = g.image
