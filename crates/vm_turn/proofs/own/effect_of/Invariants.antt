use Rattle.vm_turn.proofs.own.effect_of.Given as goal

abbrev pub ghost-step : goal.ghost-step
ghost-step g a = g.at.image

abbrev pub ghost-see : goal.ghost-see
ghost-see g a = g.at
