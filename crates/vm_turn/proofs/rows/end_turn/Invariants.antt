use Rattle.vm_turn.proofs.rows.end_turn.Given as goal

abbrev pub ghost-end_cell : goal.ghost-end_cell
ghost-end_cell g a = g.at
