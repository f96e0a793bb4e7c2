use Rattle.analysis_command.proofs.late.late_program.Given as goal

abbrev pub ghost-build : goal.ghost-build
ghost-build g a = g.text
