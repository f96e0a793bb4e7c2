use Rattle.code_correct.proofs.CheckedJoined.{programs_run}
use Rattle.code_correct.proofs.runs_of_checked.checked_programs_run.Goals as goal

pub returns : goal.returns
returns c = programs_run c.checked_programs_are_ready.ensures c.well_formed_programs_run.ensures
