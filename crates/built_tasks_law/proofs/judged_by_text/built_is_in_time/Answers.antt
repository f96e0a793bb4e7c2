use Rattle.built_tasks_law.proofs.Judged.{built_is_in_time}
use Rattle.built_tasks_law.proofs.judged_by_text.built_is_in_time.Goals as goal

pub returns : goal.returns
returns c = built_is_in_time c.timely_is_in_time.ensures c.never_in_time_and_not.ensures
