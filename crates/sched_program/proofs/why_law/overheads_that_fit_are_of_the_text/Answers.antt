use Rattle.sched_program.proofs.Overheads.{that_fit}
use Rattle.sched_program.proofs.why_law.overheads_that_fit_are_of_the_text.Goals as goal

pub returns : goal.returns
returns c = that_fit
