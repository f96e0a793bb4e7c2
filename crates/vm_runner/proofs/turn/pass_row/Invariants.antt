use Rattle.vm_runner.proofs.turn.pass_row.Given as goal

abbrev pub ghost-run_row : goal.ghost-run_row
ghost-run_row g a = g.course.image

abbrev pub ghost-end_row : goal.ghost-end_row
ghost-end_row g a = g.course.image
