use Rattle.replay_due_events.proofs.no_overdue_start.is_none_missing_before.Given as goal

abbrev pub ghost-is_next_after : goal.ghost-is_next_after
ghost-is_next_after g a = g.program
