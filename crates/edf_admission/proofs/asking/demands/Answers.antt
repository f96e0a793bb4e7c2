use Rattle.std.proofs.Common.{List, sym, subst}
use Rattle.sched_demand.specs.declared.tasks.DemandTask.{DemandTask}
use Rattle.sched_demand.specs.Demand.{AreTasks}
use Rattle.loader.proofs.Order.{ranks_none}
use Rattle.command_due.specs.Tasks.{AreDemands}
use Rattle.edf_admission.proofs.Asked.{are_a_set, are_demands}
use Rattle.edf_admission.proofs.Ranks.{each_rank_is_had}
use Rattle.edf_admission.proofs.asking.demands.Goals as goal

pub tasks-requires : goal.tasks-requires
tasks-requires c =
    let m = c.args.image.now.image in
    each_rank_is_had m (ranks_none m c.requires.valid)

pub unreachable-requires : goal.unreachable-requires
unreachable-requires c =
    let m = c.args.image.now.image in
    let shape = c.requires in
    c.in-None.ensures (are_a_set m (ranks_none m shape.valid) _ c.in_ok-tasks.ensures shape.limits)

pub returns-clause-tasks : goal.returns-clause-tasks
returns-clause-tasks c =
    let m = c.args.image.now.image in
    subst (λ (ts : List DemandTask). AreDemands m ts) (sym c.in-Some.ensures.1) (are_demands m (ranks_none m c.requires.valid) _ c.in_ok-tasks.ensures)

pub returns-clause-valid : goal.returns-clause-valid
returns-clause-valid c =
    let m = c.args.image.now.image in
    let shape = c.requires in
    subst AreTasks (sym c.in-Some.ensures.1) (are_a_set m (ranks_none m shape.valid) _ c.in_ok-tasks.ensures shape.limits)
