use Rattle.analysis_command.proofs.image_of_program.ranked_image.Given as goal

abbrev pub ghost-ranked : goal.ghost-ranked
ghost-ranked g a = g.text
