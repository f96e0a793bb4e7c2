use Rattle.std.proofs.Common.{◌≡◌, drop}
use Rattle.sched_sections.specs.Sections.{first_late}
use Rattle.sched_sections.proofs.sections.first_late.Given as goal

abbrev pub invariant-loop-level : goal.invariant-loop-level
invariant-loop-level l = first_late l.levels (drop l.level-index l.order) ≡ first_late l.levels l.order
