use Rattle.vm_instructions.proofs.within.step_alone.Given as goal

abbrev pub ghost-step_within : goal.ghost-step_within
ghost-step_within g a = g.frame
