use Rattle.vm_turn.proofs.cell.pass_cell.Given as goal

abbrev pub ghost-pass_own : goal.ghost-pass_own
ghost-pass_own g a = g.at
