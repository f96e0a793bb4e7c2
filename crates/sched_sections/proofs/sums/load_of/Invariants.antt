use Rattle.std.proofs.Common.{◌≡◌, ◌≤◌, ◌*◌, take}
use Rattle.std.specs.Prelude.{sum_by}
use Rattle.sched_sections.specs.Load.{share}
use Rattle.sched_sections.specs.Levels.{tasks_in}
use Rattle.sched_sections.proofs.sums.load_of.Given as goal

abbrev pub invariant-loop-level : goal.invariant-loop-level
invariant-loop-level l = record {
  total : l.total ≡ sum_by (λ t. share t) (take l.level (tasks_in l.levels));
  range : l.total ≤ l.level * 100000000000000;
}
