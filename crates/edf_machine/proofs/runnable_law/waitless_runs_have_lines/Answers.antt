use Rattle.edf_machine.proofs.Lines.{waitless_runs_have_lines}
use Rattle.edf_machine.proofs.runnable_law.waitless_runs_have_lines.Goals as goal

pub returns : goal.returns
returns c = waitless_runs_have_lines c.waitless_runs_are_awake.ensures
