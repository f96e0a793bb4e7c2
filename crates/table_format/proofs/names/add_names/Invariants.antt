use Rattle.std.proofs.Common.{drop, ◌≡◌, ◌++◌}
use Rattle.std.specs.Prelude.{flat_map}
use Rattle.table_format.specs.Rules.{task_names}
use Rattle.table_format.specs.Parts.{seen}
use Rattle.table_format.proofs.names.add_names.Given as goal

abbrev pub invariant-loop-task : goal.invariant-loop-task
invariant-loop-task l = seen l.all.items ++ flat_map task_names (drop l.task-index l.tasks) ≡ seen l.fn.all.items ++ flat_map task_names l.tasks
