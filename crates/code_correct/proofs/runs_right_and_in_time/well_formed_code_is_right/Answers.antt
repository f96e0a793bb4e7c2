use Rattle.code_correct.proofs.HeadlineLemmas.{well_formed_code_is_right}
use Rattle.code_correct.proofs.runs_right_and_in_time.well_formed_code_is_right.Goals as goal

pub returns : goal.returns
returns c = well_formed_code_is_right
