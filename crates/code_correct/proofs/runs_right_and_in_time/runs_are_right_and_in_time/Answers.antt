use Rattle.code_correct.proofs.HeadlineLemmas.{runs_are_right_and_in_time}
use Rattle.code_correct.proofs.runs_right_and_in_time.runs_are_right_and_in_time.Goals as goal

pub returns : goal.returns
returns c = runs_are_right_and_in_time
