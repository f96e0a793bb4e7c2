use Rattle.std.proofs.Common.{rules, leb}
use Rattle.std.proofs.lemmas.List.Sorted.{answers_always}
use Rattle.sched_response.specs.declared.tasks.Task.{Task}
use Rattle.sched_response.proofs.Ascending.{adjacent_decides}
use Rattle.sched_response.proofs.tasks.deadlines_ascend.Goals as goal

pub returns : goal.returns
returns c = adjacent_decides (λ (t : Task). t.deadline) _ (record { frame = 0; deadline = 0; run = 0; susp = 0; waits = 0; block = 0 }) _ (c.is_sorted_by.ensures.cases (λ x y. leb x.deadline y.deadline) (answers_always _ _ _ (λ f a r g h. search rules)))
