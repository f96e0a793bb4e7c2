use Rattle.vm_turn.proofs.ending.end_cell.Given as goal

abbrev pub ghost-end_own : goal.ghost-end_own
ghost-end_own g a = g.at
