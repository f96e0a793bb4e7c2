use Rattle.std.proofs.Common.{◌≡◌, ◌+◌, subst, arith}
use Rattle.base.specs.Capped.{cap}
use Rattle.sched_response.specs.Demand.{activation}
use Rattle.sched_sections.specs.Parts.{all_of_first}
use Rattle.sched_sections.specs.Levels.{tasks_in}
use Rattle.sched_sections.proofs.Tasks.{whole_sum}
use Rattle.sched_sections.proofs.sums.sum_of.Goals as goal

pub returns : goal.returns
returns c =
    let at : c.loop-higher.higher ≡ c.args.level = omega (arith, c.loop-higher.auto, c.loop-higher-test.false) in
    whole_sum c.args.levels.now c.args.level c.args.r c.loop-higher.total c.task_of-own.result c.requires.level c.task_of-own.ensures.value
    (subst (λ n. c.loop-higher.total ≡ cap ((c.task_of-own.result.block + activation c.task_of-own.result.block c.task_of-own.result) + all_of_first (tasks_in c.args.levels.now) c.args.level c.args.r n)) at c.loop-higher.invariant)
