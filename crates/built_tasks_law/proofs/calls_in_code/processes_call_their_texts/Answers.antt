use Rattle.built_tasks_law.proofs.Whole.{processes_call_their_texts}
use Rattle.built_tasks_law.proofs.calls_in_code.processes_call_their_texts.Goals as goal

pub returns : goal.returns
returns c = processes_call_their_texts
