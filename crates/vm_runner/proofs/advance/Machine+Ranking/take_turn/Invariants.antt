use Rattle.vm_runner.proofs.advance.Machine+Ranking.take_turn.Given as goal

abbrev pub ghost-begin_turn : goal.ghost-begin_turn
ghost-begin_turn g a = g.run

abbrev pub ghost-finish_turn : goal.ghost-finish_turn
ghost-finish_turn g a = g.run
