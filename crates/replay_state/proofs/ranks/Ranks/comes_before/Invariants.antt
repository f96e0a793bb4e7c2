use Rattle.replay_state.proofs.ranks.Ranks.comes_before.Given as goal

abbrev pub ghost-standing : goal.ghost-standing
ghost-standing g a = g.program
