use Rattle.analysis_command.proofs.texts.fit_of_text.Given as goal

abbrev pub ghost-fit_text : goal.ghost-fit_text
ghost-fit_text g a = g.bytes
