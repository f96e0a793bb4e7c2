use Rattle.edf_command.proofs.judged.judge_program.Given as goal

abbrev pub ghost-shape : goal.ghost-shape
ghost-shape g a = g.text
