use Rattle.code_correct.proofs.HeadlineLemmas.{well_formed_programs_run}
use Rattle.code_correct.proofs.runs_right_and_in_time.well_formed_programs_run.Goals as goal

pub returns : goal.returns
returns c = well_formed_programs_run
