use Rattle.edf_semantics.proofs.Keeping.{every_run_is_safe}
use Rattle.edf_semantics.proofs.safety_law.every_run_is_safe.Goals as goal

pub returns : goal.returns
returns c = every_run_is_safe
