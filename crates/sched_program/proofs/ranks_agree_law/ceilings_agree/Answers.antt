use Rattle.sched_program.proofs.RankedLemmas.{ceilings_agree}
use Rattle.sched_program.proofs.ranks_agree_law.ceilings_agree.Goals as goal

pub returns : goal.returns
returns c = ceilings_agree
