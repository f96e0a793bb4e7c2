use Rattle.code_lifting.proofs.Kept.{valid_runs_are_kept}
use Rattle.code_lifting.proofs.runs_refine.valid_runs_are_kept.Goals as goal

pub returns : goal.returns
returns c = valid_runs_are_kept
