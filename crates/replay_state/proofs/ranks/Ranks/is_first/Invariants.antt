use Rattle.replay_state.proofs.ranks.Ranks.is_first.Given as goal

abbrev pub ghost-is_first_by_rank : goal.ghost-is_first_by_rank
ghost-is_first_by_rank g a = g.program

abbrev pub ghost-is_first_by_standing : goal.ghost-is_first_by_standing
ghost-is_first_by_standing g a = g.program
