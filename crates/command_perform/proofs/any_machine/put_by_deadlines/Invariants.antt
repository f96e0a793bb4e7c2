use Rattle.command_perform.proofs.any_machine.put_by_deadlines.Given as goal

abbrev pub ghost-run : goal.ghost-run
ghost-run g a = g.image
