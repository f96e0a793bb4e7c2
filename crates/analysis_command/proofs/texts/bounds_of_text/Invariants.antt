use Rattle.analysis_command.proofs.texts.bounds_of_text.Given as goal

abbrev pub ghost-judged_bounds : goal.ghost-judged_bounds
ghost-judged_bounds g a = g.bytes
