use Rattle.std.proofs.Common.{◌≡◌, ◌++◌, drop}
use Rattle.sched_sections.specs.Sections.{sections_text}
use Rattle.sched_sections.proofs.sections.add_sections.Given as goal

abbrev pub invariant-loop-level : goal.invariant-loop-level
invariant-loop-level l = l.text ++ sections_text l.levels (drop l.level-index l.order) ≡ l.initial.text ++ sections_text l.levels l.order
