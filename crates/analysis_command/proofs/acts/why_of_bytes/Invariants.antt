use Rattle.analysis_command.proofs.acts.why_of_bytes.Given as goal

abbrev pub ghost-bounds_of_text : goal.ghost-bounds_of_text
ghost-bounds_of_text a = a.text.now
