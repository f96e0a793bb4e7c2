use Rattle.edf_semantics.proofs.Kept.{waitless_runs_are_awake}
use Rattle.edf_semantics.proofs.runs_refine.waitless_runs_are_awake.Goals as goal

pub returns : goal.returns
returns c = waitless_runs_are_awake
