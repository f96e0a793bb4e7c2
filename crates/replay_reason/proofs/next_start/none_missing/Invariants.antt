use Rattle.replay_reason.proofs.next_start.none_missing.Given as goal

abbrev pub ghost-is_none_missing_before : goal.ghost-is_none_missing_before
ghost-is_none_missing_before g a = g.program
