use Rattle.code_correct.proofs.HeadlineLemmas.{proper_code_is_right}
use Rattle.code_correct.proofs.runs_right_and_in_time.proper_code_is_right.Goals as goal

pub returns : goal.returns
returns c = proper_code_is_right
