-- Tasks whose numbers are in their limits, in whatever order of frames and deadlines: the argument
-- holds of any fixed ranks.
use Rattle.std.specs.Prelude.{List, All}
use Rattle.sched_response.specs.declared.tasks.Task.{Task}
use Rattle.sched_response.specs.Demand.{IsTask}

abbrev pub AreLimited : List Task → Type 0
AreLimited ts = All IsTask ts
