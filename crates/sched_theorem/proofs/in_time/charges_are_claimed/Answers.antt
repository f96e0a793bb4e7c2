use Rattle.sched_theorem.proofs.Counting.{counting}
use Rattle.sched_theorem.proofs.in_time.charges_are_claimed.Goals as goal

pub returns : goal.returns
returns c = λ n count cost stay pieces left charges paid. counting n count cost stay pieces left charges paid
