use Rattle.built_tasks_law.proofs.Touched.{texts_use}
use Rattle.built_tasks_law.proofs.monitors_reached.texts_use_what_they_touch.Goals as goal

pub returns : goal.returns
returns c = texts_use
