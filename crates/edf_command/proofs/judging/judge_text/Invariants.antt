use Rattle.edf_command.proofs.judging.judge_text.Given as goal

abbrev pub ghost-judge_written : goal.ghost-judge_written
ghost-judge_written g a = g.bytes
