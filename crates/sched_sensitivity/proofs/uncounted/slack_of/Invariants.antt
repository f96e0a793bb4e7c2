use Rattle.sched_sensitivity.proofs.uncounted.slack_of.Given as goal

abbrev pub ghosts-with_count : goal.ghosts-with_count
ghosts-with_count a = record { name = a.blank.name; parts = a.blank.parts }
