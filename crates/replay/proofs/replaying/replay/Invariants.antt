use Rattle.replay.proofs.replaying.replay.Given as goal

abbrev pub ghost-ranks_of : goal.ghost-ranks_of
ghost-ranks_of g a = g.text
