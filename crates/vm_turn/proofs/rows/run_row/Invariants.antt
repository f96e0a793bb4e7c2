use Rattle.vm_turn.proofs.rows.run_row.Given as goal

abbrev pub ghost-run_cell : goal.ghost-run_cell
ghost-run_cell g a = g.image
