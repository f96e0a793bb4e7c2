use Rattle.sched_sections.proofs.Loading.{no_more_than_all}
use Rattle.sched_sections.proofs.parts_law.timely_tasks_load_no_more_than_all.Goals as goal

pub returns : goal.returns
returns c = no_more_than_all
