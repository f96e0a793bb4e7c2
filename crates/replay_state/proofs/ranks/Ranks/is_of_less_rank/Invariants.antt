use Rattle.replay_state.proofs.ranks.Ranks.is_of_less_rank.Given as goal

abbrev pub ghost-rank : goal.ghost-rank
ghost-rank g a = g.program
