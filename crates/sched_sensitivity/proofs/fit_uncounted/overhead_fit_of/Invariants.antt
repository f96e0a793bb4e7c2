use Rattle.sched_sensitivity.proofs.fit_uncounted.overhead_fit_of.Given as goal

abbrev pub ghosts-overhead_with_count : goal.ghosts-overhead_with_count
ghosts-overhead_with_count a = record { name = a.blank.name; parts = a.blank.parts }
