use Rattle.replay_reason.proofs.acting.is_first.Given as goal

abbrev pub ghost-is_first : goal.ghost-is_first
ghost-is_first g a = g.program
