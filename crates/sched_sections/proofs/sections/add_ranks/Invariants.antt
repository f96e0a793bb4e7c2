use Rattle.std.proofs.Common.{◌≡◌, ◌++◌}
use Rattle.sched_sections.specs.Sections.{rank_lines}
use Rattle.sched_sections.proofs.sections.add_ranks.Given as goal

abbrev pub invariant-loop-higher : goal.invariant-loop-higher
invariant-loop-higher l = l.text ≡ l.initial.text ++ rank_lines l.levels l.level l.r l.higher
