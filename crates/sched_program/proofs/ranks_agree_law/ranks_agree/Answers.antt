use Rattle.sched_program.proofs.RankedLemmas.{ranks_agree}
use Rattle.sched_program.proofs.ranks_agree_law.ranks_agree.Goals as goal

pub returns : goal.returns
returns c = ranks_agree
