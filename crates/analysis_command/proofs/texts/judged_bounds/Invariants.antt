use Rattle.analysis_command.proofs.texts.judged_bounds.Given as goal

abbrev pub ghost-why_text : goal.ghost-why_text
ghost-why_text g a = g.text

abbrev pub ghost-late_program : goal.ghost-late_program
ghost-late_program g a = g.text
