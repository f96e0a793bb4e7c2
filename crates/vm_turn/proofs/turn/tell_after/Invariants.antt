use Rattle.vm_turn.proofs.turn.tell_after.Given as goal

abbrev pub ghost-signal : goal.ghost-signal
ghost-signal g a = g.image

abbrev pub ghost-broadcast : goal.ghost-broadcast
ghost-broadcast g a = g.image
