-- The numbers of a task that are changed.
use Rattle.std.specs.Prelude.{ℕ, List}
use Rattle.sched_response.specs.declared.tasks.Task.{Task}
use Rattle.sched_response.specs.Demand.{task_at}
use Rattle.sched_sensitivity.specs.declared.fitting.Varied.{Varied}
use Rattle.sched_sensitivity.specs.declared.fitting.Varied.TheVariants.{Cost, Suspension}

abbrev pub number_at : Varied → List Task → (level : ℕ) → ℕ
number_at Cost ts level = (task_at ts level).run
number_at Suspension ts level = (task_at ts level).susp
