use Rattle.vm_runner.proofs.advance.Machine+Ranking.by_ranks.Given as goal

abbrev pub ghost-new : goal.ghost-new
ghost-new g a = g.run

abbrev pub ghost-new-2 : goal.ghost-new-2
ghost-new-2 g a = g.run
