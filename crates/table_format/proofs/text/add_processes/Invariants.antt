use Rattle.std.proofs.Common.{map, drop, ◌≡◌, ◌++◌}
use Rattle.syntax_tree.specs.Placed.{process}
use Rattle.table_format.specs.Program.{table_process}
use Rattle.table_format.specs.Parts.{declarations_text}
use Rattle.table_format.proofs.text.add_processes.Given as goal

abbrev pub invariant-loop-task : goal.invariant-loop-task
invariant-loop-task l = l.text ++ declarations_text (map (λ p. process (table_process l.tail p)) (drop l.task-index l.tasks)) ≡ l.fn.text ++ declarations_text (map (λ p. process (table_process l.tail p)) l.tasks)
