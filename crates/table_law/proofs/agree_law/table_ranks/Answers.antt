use Rattle.table_law.proofs.Ranks.{ranks_are}
use Rattle.table_law.proofs.agree_law.table_ranks.Goals as goal

pub returns : goal.returns
returns c = ranks_are c.table_costs.ensures.processes c.table_frames.ensures.deadlines
