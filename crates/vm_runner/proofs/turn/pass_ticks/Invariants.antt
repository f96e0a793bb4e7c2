use Rattle.vm_runner.proofs.turn.pass_ticks.Given as goal

abbrev pub ghost-pass_one : goal.ghost-pass_one
ghost-pass_one g a = g.course

abbrev pub ghost-pass_chosen : goal.ghost-pass_chosen
ghost-pass_chosen g a = g.course
