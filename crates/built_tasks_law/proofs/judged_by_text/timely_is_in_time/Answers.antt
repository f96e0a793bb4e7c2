use Rattle.built_tasks_law.proofs.Judged.{timely_is_in_time}
use Rattle.built_tasks_law.proofs.judged_by_text.timely_is_in_time.Goals as goal

pub returns : goal.returns
returns c = timely_is_in_time c.tasks_are_of_the_text.ensures c.ranks_are_of_the_text.ensures
