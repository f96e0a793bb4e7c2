use Rattle.edf_command.proofs.shaping.with_deadlines.Given as goal

abbrev pub ghost-with_ranks : goal.ghost-with_ranks
ghost-with_ranks g a = g.text
