use Rattle.vm_instructions.proofs.innermost.run_innermost.Given as goal

abbrev pub ghost-row : goal.ghost-row
ghost-row g a = g.frame
