use Rattle.built_tasks_law.proofs.Judged.{late_is_not_in_time}
use Rattle.built_tasks_law.proofs.judged_by_text.late_is_not_in_time.Goals as goal

pub returns : goal.returns
returns c = late_is_not_in_time c.tasks_are_of_the_text.ensures c.ranks_are_of_the_text.ensures
