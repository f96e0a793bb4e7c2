use Rattle.compile.proofs.compiling.compile.Given as goal

abbrev pub ghost-compiled : goal.ghost-compiled
ghost-compiled a = a.text.now
