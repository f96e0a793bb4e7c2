use Rattle.std.proofs.Common.{subst, sym}
use Rattle.sched_response.specs.declared.tasks.Task.{Task}
use Rattle.sched_response.specs.Demand.{IsTask}
use Rattle.sched_sections.proofs.Tasks as tasks
use Rattle.sched_sections.proofs.levels.task_of.Goals as goal

pub returns-clause-value : goal.returns-clause-value
returns-clause-value c = tasks.task_of c.args.levels.now c.args.level _ c.requires.level

pub returns-clause-range : goal.returns-clause-range
returns-clause-range c = subst (λ (t : Task). IsTask t) (sym (tasks.task_of c.args.levels.now c.args.level _ c.requires.level)) (tasks.is_task c.args.levels.now c.args.level c.requires.level c.requires.tasks)
