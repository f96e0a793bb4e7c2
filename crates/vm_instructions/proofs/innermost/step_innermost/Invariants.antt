use Rattle.vm_instructions.proofs.innermost.step_innermost.Given as goal

abbrev pub ghost-step_alone : goal.ghost-step_alone
ghost-step_alone g a = g.frame
