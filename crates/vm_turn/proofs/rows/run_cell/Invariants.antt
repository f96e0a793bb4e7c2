use Rattle.vm_turn.proofs.rows.run_cell.Given as goal

abbrev pub ghost-run : goal.ghost-run
ghost-run g a = g.image
