use Rattle.replay_accept.proofs.rules.Rules.is_none_missing.Given as goal

abbrev pub ghost-is_none_missing_before : goal.ghost-is_none_missing_before
ghost-is_none_missing_before g a = g.program
