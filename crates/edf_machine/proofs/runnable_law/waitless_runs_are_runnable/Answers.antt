use Rattle.edf_machine.proofs.Runnable.{waitless_runs_are_runnable}
use Rattle.edf_machine.proofs.runnable_law.waitless_runs_are_runnable.Goals as goal

pub returns : goal.returns
returns c = waitless_runs_are_runnable c.every_run_is_safe.ensures c.waitless_runs_are_awake.ensures
