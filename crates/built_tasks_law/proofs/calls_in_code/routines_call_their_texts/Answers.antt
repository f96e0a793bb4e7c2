use Rattle.built_tasks_law.proofs.Whole.{routines_call_their_texts}
use Rattle.built_tasks_law.proofs.calls_in_code.routines_call_their_texts.Goals as goal

pub returns : goal.returns
returns c = routines_call_their_texts
