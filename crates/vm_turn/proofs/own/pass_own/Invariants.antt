use Rattle.vm_turn.proofs.own.pass_own.Given as goal

abbrev pub ghost-effect_of : goal.ghost-effect_of
ghost-effect_of g a = g.at
