use Rattle.vm_law.proofs.Valid.{valid_runs_are_safe}
use Rattle.vm_law.proofs.safe_runs.valid_runs_are_safe.Goals as goal

pub returns : goal.returns
returns c = valid_runs_are_safe
