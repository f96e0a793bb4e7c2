use Rattle.std.proofs.Common.{◌≡◌, ◌++◌, drop}
use Rattle.sched_table.specs.Report.{monitors_text}
use Rattle.sched_table.proofs.lines.add_monitors.Given as goal

abbrev pub invariant-loop-at : goal.invariant-loop-at
invariant-loop-at l = l.text ++ monitors_text (drop l.at l.names) (drop l.at l.ceilings) (drop l.at l.words) ≡ l.initial.text ++ monitors_text l.names l.ceilings l.words
