use Rattle.std.proofs.Common.{rules, length}
use Rattle.sched_theorem.specs.Example.{bound_of, example_rank_of, place_of, trace_of}
use Rattle.sched_theorem.specs.Placed.{AreRanks, IsInTimeAt}
use Rattle.sched_theorem.proofs.example.example_is_in_time.Goals as goal

pub returns-clause-deadlines : goal.returns-clause-deadlines
returns-clause-deadlines c =
    let r = c.example.result in
    let ranks : AreRanks (length r.tasks) (example_rank_of r) (place_of r) = search rules in
    let in_time : IsInTimeAt r.tasks (example_rank_of r) (place_of r) (bound_of r) 18 (trace_of r) = search rules in
    c.activations_meet_deadlines.ensures.placed r.tasks (example_rank_of r) (place_of r) (bound_of r) 18 (trace_of r) c.example.ensures.bounds ranks in_time
