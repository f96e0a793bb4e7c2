use Rattle.command_perform.proofs.ready.Ready.put_log.Given as goal

abbrev pub ghost-put_log : goal.ghost-put_log
ghost-put_log g a = g.image
