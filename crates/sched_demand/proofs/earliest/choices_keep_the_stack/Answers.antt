use Rattle.sched_demand.proofs.Stacking.{kept_by_choice}
use Rattle.sched_demand.proofs.earliest.choices_keep_the_stack.Goals as goal

pub returns : goal.returns
returns c = kept_by_choice
