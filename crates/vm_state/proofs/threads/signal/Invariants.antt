use Rattle.vm_state.proofs.threads.signal.Given as goal

abbrev pub ghost-wake_at : goal.ghost-wake_at
ghost-wake_at g a = g.image
