use Rattle.compile.proofs.compiling.compiled.Given as goal

abbrev pub ghost-build : goal.ghost-build
ghost-build g a = g.bytes
