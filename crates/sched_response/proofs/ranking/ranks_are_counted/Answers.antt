use Rattle.sched_response.proofs.Counted.{are_counted}
use Rattle.sched_response.proofs.ranking.ranks_are_counted.Goals as goal

pub returns : goal.returns
returns c = are_counted
