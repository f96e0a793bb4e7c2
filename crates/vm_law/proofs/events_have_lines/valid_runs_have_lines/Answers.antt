use Rattle.vm_law.proofs.Ticking.{valid_runs_have_lines}
use Rattle.vm_law.proofs.events_have_lines.valid_runs_have_lines.Goals as goal

pub returns : goal.returns
returns c = valid_runs_have_lines
