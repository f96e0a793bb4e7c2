use Rattle.replay_accept.proofs.rules.Rules.next_start.Given as goal

abbrev pub ghost-first_due : goal.ghost-first_due
ghost-first_due g a = g.program
