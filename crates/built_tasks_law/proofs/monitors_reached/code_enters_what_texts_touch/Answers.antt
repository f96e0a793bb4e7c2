use Rattle.built_tasks_law.proofs.Rows.{code_enters}
use Rattle.built_tasks_law.proofs.monitors_reached.code_enters_what_texts_touch.Goals as goal

pub returns : goal.returns
returns c = code_enters c.routines_call_their_texts.ensures c.processes_call_their_texts.ensures
