use Rattle.vm_turn.proofs.turn.turn.Given as goal

abbrev pub ghost-pass_cell : goal.ghost-pass_cell
ghost-pass_cell g a = g.at
