use Rattle.code_correct.proofs.GeneratedRunsJoined.{made_is_faithful}
use Rattle.code_correct.proofs.runs_of_generated.what_is_made_of_a_checked_program_is_faithful.Goals as goal

pub returns : goal.returns
returns c =
    made_is_faithful c.checked_programs_are_ready.ensures c.what_is_generated_is_code.ensures
    c.program_code_is_faithful.ensures
