use Rattle.sched_sections.proofs.Adding.{at_bound}
use Rattle.sched_sections.proofs.parts_law.parts_of_a_bound_are_the_bound.Goals as goal

pub returns : goal.returns
returns c = at_bound
