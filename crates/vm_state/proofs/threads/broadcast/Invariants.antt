use Rattle.vm_state.proofs.threads.broadcast.Given as goal

abbrev pub ghost-wake_each : goal.ghost-wake_each
ghost-wake_each g a = g.image
