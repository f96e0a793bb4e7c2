use Rattle.std.proofs.Common.{◌≡◌, ◌+◌}
use Rattle.base.specs.Capped.{cap}
use Rattle.sched_response.specs.Demand.{activation}
use Rattle.sched_sections.specs.Parts.{all_of_first}
use Rattle.sched_sections.specs.Levels.{tasks_in}
use Rattle.sched_sections.proofs.sums.sum_of.Given as goal

abbrev pub invariant-loop-higher : goal.invariant-loop-higher
invariant-loop-higher l = l.total ≡ cap ((l.own.block + activation l.own.block l.own) + all_of_first (tasks_in l.levels) l.level l.r l.higher)
