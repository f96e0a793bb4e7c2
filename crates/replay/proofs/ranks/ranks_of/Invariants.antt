use Rattle.replay.proofs.ranks.ranks_of.Given as goal

abbrev pub ghost-ranked : goal.ghost-ranked
ghost-ranked g a = g.text
