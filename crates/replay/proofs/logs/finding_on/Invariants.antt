use Rattle.replay.proofs.logs.finding_on.Given as goal

abbrev pub ghost-replay : goal.ghost-replay
ghost-replay g a = g.text
