use Rattle.replay_due_events.proofs.no_overdue_start.is_next_after.Given as goal

abbrev pub ghost-lines_are_after : goal.ghost-lines_are_after
ghost-lines_are_after g a = g.program
