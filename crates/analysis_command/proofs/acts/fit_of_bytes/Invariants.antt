use Rattle.analysis_command.proofs.acts.fit_of_bytes.Given as goal

abbrev pub ghost-fit_of_text : goal.ghost-fit_of_text
ghost-fit_of_text a = a.text.now
