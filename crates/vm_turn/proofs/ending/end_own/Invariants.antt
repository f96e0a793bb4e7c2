use Rattle.vm_turn.proofs.ending.end_own.Given as goal

abbrev pub ghost-see : goal.ghost-see
ghost-see g a = g.at
