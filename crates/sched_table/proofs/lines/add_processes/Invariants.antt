use Rattle.std.proofs.Common.{◌≡◌, ◌++◌, drop}
use Rattle.sched_table.specs.Report.{processes_text}
use Rattle.sched_table.proofs.lines.add_processes.Given as goal

abbrev pub invariant-loop-at : goal.invariant-loop-at
invariant-loop-at l = l.text ++ processes_text (drop l.at l.names) (drop l.at l.rows) ≡ l.initial.text ++ processes_text l.names l.rows
