use Rattle.replay_reason.proofs.next_start.first_at.Given as goal

abbrev pub ghost-first_due : goal.ghost-first_due
ghost-first_due g a = g.program
