use Rattle.vm_runner.proofs.advance.Machine+Ranking.end_turn.Given as goal

abbrev pub ghost-finish_turn : goal.ghost-finish_turn
ghost-finish_turn g a = g.run
