use Rattle.std.proofs.Common.{drop, ◌≡◌, ◌++◌}
use Rattle.std.specs.Prelude.{flat_map}
use Rattle.table_format.specs.Parts.{seen}
use Rattle.table_format.proofs.names.all_stays.Given as goal

abbrev pub invariant-loop-task : goal.invariant-loop-task
invariant-loop-task l = seen l.all.items ++ flat_map (λ p. p.stays) (drop l.task-index l.tasks) ≡ flat_map (λ p. p.stays) l.tasks
