use Rattle.sched_timing.proofs.Whole.{every_run_is_in_time}
use Rattle.sched_timing.proofs.runs_in_time.every_run_is_in_time.Goals as goal

pub returns : goal.returns
returns c = every_run_is_in_time
