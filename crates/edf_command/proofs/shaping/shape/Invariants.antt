use Rattle.edf_command.proofs.shaping.shape.Given as goal

abbrev pub ghost-with_deadlines : goal.ghost-with_deadlines
ghost-with_deadlines g a = g.text
