use Rattle.code_correct.proofs.HeadlineLemmas.{programs_run_right_and_in_time}
use Rattle.code_correct.proofs.runs_right_and_in_time.programs_run_right_and_in_time.Goals as goal

pub returns : goal.returns
returns c = programs_run_right_and_in_time
