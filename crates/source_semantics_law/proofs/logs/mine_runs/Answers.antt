use Rattle.source_semantics_law.proofs.Larger.{mine_runs}
use Rattle.source_semantics_law.proofs.logs.mine_runs.Goals as goal

pub returns : goal.returns
returns c = mine_runs
