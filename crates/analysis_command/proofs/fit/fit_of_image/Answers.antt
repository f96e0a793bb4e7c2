use Rattle.std.proofs.Common.{◌∙◌, List, subst, sym}
use Rattle.sched_response.specs.declared.tasks.Task.{Task}
use Rattle.sched_response.specs.Demand.{AreTasks}
use Rattle.analysis_command.proofs.Ready as ready
use Rattle.analysis_command.proofs.fit.fit_of_image.Goals as goal

pub overhead_fit_of-requires : goal.overhead_fit_of-requires
overhead_fit_of-requires c = subst (λ (ts : List Task). AreTasks ts) (sym (c.as_slice.ensures.value ∙ c.in_ok-tasks.ensures)) (ready.sound c.args.image.now c.requires.ready)
