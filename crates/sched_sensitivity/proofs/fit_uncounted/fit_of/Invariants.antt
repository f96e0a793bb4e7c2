use Rattle.sched_sensitivity.proofs.fit_uncounted.fit_of.Given as goal

abbrev pub ghosts-with_count : goal.ghosts-with_count
ghosts-with_count a = record { name = a.blank.name; parts = a.blank.parts }
