use Rattle.replay.proofs.logs.judge_lines.Given as goal

abbrev pub ghost-finding_on : goal.ghost-finding_on
ghost-finding_on a = a.source.now.text.now
