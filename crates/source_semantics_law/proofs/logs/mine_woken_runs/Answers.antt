use Rattle.source_semantics_law.proofs.Larger.{mine_woken_runs}
use Rattle.source_semantics_law.proofs.logs.mine_woken_runs.Goals as goal

pub returns : goal.returns
returns c = mine_woken_runs
