use Rattle.command_perform.proofs.any_machine.AnyMachine.put_log.Given as goal

abbrev pub ghost-put_by_ranks : goal.ghost-put_by_ranks
ghost-put_by_ranks g a = g.image

abbrev pub ghost-put_by_deadlines : goal.ghost-put_by_deadlines
ghost-put_by_deadlines g a = g.image
