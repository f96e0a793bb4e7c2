use Rattle.edf_command.proofs.judging.judge_source.Given as goal

abbrev pub ghost-judge_text : goal.ghost-judge_text
ghost-judge_text a = a.text.now
