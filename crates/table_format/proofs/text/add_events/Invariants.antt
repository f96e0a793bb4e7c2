use Rattle.std.proofs.Common.{drop, ◌≡◌, ◌++◌}
use Rattle.std.specs.Prelude.{flat_map}
use Rattle.table_format.specs.Program.{event_of}
use Rattle.table_format.specs.Parts.{declarations_text}
use Rattle.table_format.proofs.text.add_events.Given as goal

abbrev pub invariant-loop-task : goal.invariant-loop-task
invariant-loop-task l = l.text ++ declarations_text (flat_map (λ p. event_of p.event) (drop l.task-index l.tasks)) ≡ l.fn.text ++ declarations_text (flat_map (λ p. event_of p.event) l.tasks)
