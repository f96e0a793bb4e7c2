use Rattle.sched_sections.proofs.Adding.{past}
use Rattle.sched_sections.proofs.parts_law.parts_without_a_bound_are_past_the_deadline.Goals as goal

pub returns : goal.returns
returns c = past
