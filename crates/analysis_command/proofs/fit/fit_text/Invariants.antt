use Rattle.analysis_command.proofs.fit.fit_text.Given as goal

abbrev pub ghost-ranked_image : goal.ghost-ranked_image
ghost-ranked_image g a = g.text
