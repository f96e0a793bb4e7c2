use Rattle.vm_runner.proofs.advance.Machine+Ranking.advance.Given as goal

abbrev pub ghost-go_on : goal.ghost-go_on
ghost-go_on g a = g.image
