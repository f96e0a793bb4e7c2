use Rattle.command_perform.proofs.any_machine.AnyMachine.new.Given as goal

abbrev pub ghost-by_ranks : goal.ghost-by_ranks
ghost-by_ranks g a = g.image

abbrev pub ghost-by_deadlines : goal.ghost-by_deadlines
ghost-by_deadlines g a = g.image
