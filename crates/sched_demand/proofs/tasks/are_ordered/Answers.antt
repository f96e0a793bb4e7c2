use Rattle.std.proofs.Common.{rules}
use Rattle.std.proofs.lemmas.List.Sorted.{answers_always}
use Rattle.sched_demand.proofs.Ordered.{in_order, ordered_decides}
use Rattle.sched_demand.proofs.tasks.are_ordered.Goals as goal

pub returns : goal.returns
returns c = ordered_decides _ _ (c.is_sorted_by.ensures.cases in_order (answers_always _ _ _ (λ f a r g h. search rules)))
