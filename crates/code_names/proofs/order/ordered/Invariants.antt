use Rattle.std.proofs.Common.{◌≡◌}
use Rattle.syntax_tree.specs.Placed.{placed, plain}
use Rattle.code_spec.specs.Numbering.{numbered}
use Rattle.code_names.specs.Tasks.{after_tasks, task_count}
use Rattle.code_names.specs.Texts.{texts_of}
use Rattle.code_names.proofs.order.ordered.Given as goal

abbrev pub invariant-loop-task : goal.invariant-loop-task
invariant-loop-task l = after_tasks (plain (placed l.directory)) l.tasks.items (texts_of l.order) ≡ numbered (plain (placed l.directory))

abbrev pub decreases-loop-task : goal.decreases-loop-task
decreases-loop-task l = task_count (plain (placed l.directory)) l.tasks.items
