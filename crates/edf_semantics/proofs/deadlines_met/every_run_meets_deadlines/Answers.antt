use Rattle.edf_semantics.proofs.Meeting.{every_run_meets_deadlines}
use Rattle.edf_semantics.proofs.deadlines_met.every_run_meets_deadlines.Goals as goal

pub returns : goal.returns
returns c = every_run_meets_deadlines
