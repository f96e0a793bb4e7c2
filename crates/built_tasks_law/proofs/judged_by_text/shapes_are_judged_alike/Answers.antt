use Rattle.built_tasks_law.proofs.Judged.{shapes_are_judged_alike}
use Rattle.built_tasks_law.proofs.judged_by_text.shapes_are_judged_alike.Goals as goal

pub returns : goal.returns
returns c = shapes_are_judged_alike c.tasks_are_of_the_text.ensures c.ranks_are_of_the_text.ensures c.tasks_are_one.ensures c.timely_is_in_time.ensures c.late_is_not_in_time.ensures
