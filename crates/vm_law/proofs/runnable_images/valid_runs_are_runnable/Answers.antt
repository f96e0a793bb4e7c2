use Rattle.vm_law.proofs.Runnable.{valid_runs_are_runnable}
use Rattle.vm_law.proofs.runnable_images.valid_runs_are_runnable.Goals as goal

pub returns : goal.returns
returns c = valid_runs_are_runnable
