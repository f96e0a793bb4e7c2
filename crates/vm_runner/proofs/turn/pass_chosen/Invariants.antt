use Rattle.vm_runner.proofs.turn.pass_chosen.Given as goal

abbrev pub ghost-pass_one : goal.ghost-pass_one
ghost-pass_one g a = g.course

abbrev pub ghost-pass_row : goal.ghost-pass_row
ghost-pass_row g a = g.course
