use Rattle.sched_program.proofs.Sums as sums
use Rattle.sched_program.proofs.why_law.sums_are_the_bounds.Goals as goal

pub returns-clause-bound : goal.returns-clause-bound
returns-clause-bound c = sums.bound

pub returns-clause-late : goal.returns-clause-late
returns-clause-late c = sums.late
